-- Which page is printed: the full one, or the brief one.
use Rattle.std.proofs.Common.{Option, Some, Result, OnOk, ◌≡◌, ◌∙◌, ℕ, ◌<◌, ◌≤◌, true, false, List, [], ◌++◌, length, ap, sym, subst}
use Rattle.std.specs.Io.KnownBytes.{Appends}
use Rattle.dnsview_rows.specs.declared.row.Row.{Row}
use Rattle.dnsview_tool.specs.Printed.{Prints}
use Rattle.dnsview_tool.specs.Pages.{page_limit, IsPage, IsPageOf}
use Rattle.dnsview_tool.specs.Pages.IsPage.{full, brief}
use Rattle.dns_lines.proofs.theory.PrintedLines.{on_ok}

-- a text that is all that an empty list got
pub whole_text : (IsText : List ℕ → Type 0) (old new : List ℕ) → old ≡ [] → Prints IsText (Some old) (Some new) → IsText new
whole_text IsText old new none h = subst IsText (sym (h.2 ∙ ap (λ l. l ++ h.0) none)) h.1

module _ {X E : Type 0} (r : Result X E) (a b : Option (List ℕ)) (message : List ℕ) (rows : List Row) where
  -- the full page is printed, as it is within the limit
  pub full_printed : (text : List ℕ) → IsPageOf false message rows text → length text ≤ page_limit message → OnOk r (Appends a b text) → OnOk r (Prints (IsPage message rows) a b)
  full_printed text is within h = on_ok r (λ ends. (text, full is within, ends)) h

  -- the brief page is printed, as the full one exceeds the limit
  pub brief_printed : (other : List ℕ) → IsPageOf false message rows other → page_limit message < length other
      → OnOk r (Prints (IsPageOf true message rows) a b) → OnOk r (Prints (IsPage message rows) a b)
  brief_printed other is exceeds h = on_ok r (λ p. (p.0, brief other is exceeds p.1, p.2)) h
