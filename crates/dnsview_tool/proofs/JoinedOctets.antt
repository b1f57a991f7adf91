-- The octets of rows, where those that share a line are one row.
use Rattle.std.proofs.Common.{◌≡◌, ◌∙◌, ℕ, ◌+◌, ◌-◌, ◌≤◌, ◌&&◌, ◌==◌, Bool, true, false, List, [], ◌∷◌, ◌++◌, length, take, drop, map, slice_range, nat_le}
use Rattle.std.proofs.Common.{nat_lt, All, ap, ap₂, refl, sym, arith, append_assoc, le-leb, drop-drop, take-add}
use Rattle.std.specs.Prelude.{if◌then◌else◌}
use Rattle.std.specs.List.{flat_map}
use Rattle.std.proofs.lemmas.Bool.{and_parts, eqb-true, leb-true, ltb-true}
use Rattle.std.proofs.lemmas.List.Elements.{All-head, All-tail}
use Rattle.dnsview_rows.specs.Rows.{row_octets}
use Rattle.dnsview_rows.specs.declared.row.Row.{Row}
use Rattle.dnsview_tool.specs.Joined.{joined, line_row, line_rows, lines, shares_line, shares_long_line, shares_tiny_line, with_row, PageLine}
use Rattle.dnsview_tool.proofs.PageLines.{line_with}

-- consecutive parts of a list are one part
parts : (octets : List ℕ) (start middle end : ℕ) → start ≤ middle → middle ≤ end → slice_range octets start middle ++ slice_range octets middle end ≡ slice_range octets start end
parts octets start middle end h k =
    let after : drop (middle - start) (drop start octets) ≡ drop middle octets = drop-drop (middle - start) start octets ∙ ap (λ n. drop n octets) (omega (arith, h)) in
    let size : middle - start + (end - middle) ≡ end - start = omega (arith, h, k) in
    sym (ap (λ n. take n (drop start octets)) (sym size) ∙ take-add (middle - start) (end - middle) (drop start octets) ∙ ap (λ l. slice_range octets start middle ++ take (end - middle) l) after)

within : (message : List ℕ) (start end : ℕ) → start ≤ end → end ≤ length message
    → (if nat_le start end && nat_le end (length message) then slice_range message start end else []) ≡ slice_range message start end
within message start end h k = ap₂ (λ one other. if one && other then slice_range message start end else []) (le-leb start end h) (le-leb end (length message) k)

-- what a row that shares a line says
shared : (large : Bool) (row next : Row) → shares_line large row next ≡ true → (row.start ≤ row.end) × (next.start ≤ next.end) × (row.end ≡ next.start)
shared large row next h =
    let some = nat_lt row.start row.end in
    let meet = row.end == next.start in
    let order = nat_le next.start next.end in
    let all = and_parts (some && meet) order (and_parts (some && meet && order) (if large then shares_long_line row next else shares_tiny_line row next) h).0 in
    let both = and_parts some meet all.0 in
    let less = ltb-true row.start row.end both.0 in
    (omega (arith, less), leb-true next.start next.end all.1, eqb-true row.end next.start both.1)

-- the first of some lines ends no earlier than its first row, and not past a limit
abbrev FirstFits : ℕ → List PageLine → Type 0
FirstFits limit [] = Unit {0}
FirstFits limit (line ∷ after) = (line.first.end ≤ (line_row line).end) × ((line_row line).end ≤ limit)

module _ (large : Bool) (message : List ℕ) where
  -- the octets that lines show
  abbrev shown : List PageLine → List ℕ
  shown after = flat_map (row_octets message) (map line_row after)

  -- a row before lines shows its own octets
  abbrev ShowsMore : Row → List PageLine → List PageLine → Type 0
  ShowsMore row after more = FirstFits (length message) more × (shown more ≡ row_octets message row ++ shown after)

  row_shown : (row : Row) (after : List PageLine) → row.end ≤ length message → FirstFits (length message) after → ShowsMore row after (with_row large row after)
  row_shown row [] fits h = ((omega arith, fits), refl)
  row_shown row (line ∷ after) fits h =
      let f = row_octets message in
      let next = line.first in
      let own = line_row line in
      let both = line_with row (line_rows line) in
      elim (shares_line large row next) as (λ (b : Bool). shares_line large row next ≡ b → ShowsMore row (line ∷ after) (if b then both ∷ after else line_with row [] ∷ line ∷ after)) [
        | true ↦ λ e.
            let s = shared large row next e in
            let past : row.end ≤ own.end = omega (arith, s.1, s.2, h.0) in
            let one : slice_range message row.start row.end ++ slice_range message row.end own.end ≡ slice_range message row.start own.end = parts message row.start row.end own.end s.0 past in
            let front : f row ≡ slice_range message row.start row.end = within message row.start row.end s.0 fits in
            let second : f own ≡ slice_range message row.end own.end =
            within message next.start own.end (omega (arith, s.1, h.0)) h.1 ∙ ap (λ n. slice_range message n own.end) (sym s.2) in
            let whole : f (line_row both) ≡ slice_range message row.start own.end = within message row.start own.end (omega (arith, s.0, past)) h.1 in
            let joint : f (line_row both) ≡ f row ++ f own = whole ∙ sym one ∙ sym (ap₂ (λ one other. one ++ other) front second) in
            ((past, h.1), ap (λ l. l ++ shown after) joint ∙ append_assoc (f row) (f own) (shown after))
        | false ↦ λ e. ((omega arith, fits), refl)
      ] refl

  rows_shown : (rows : List Row) → All (λ row. row.end ≤ length message) rows → FirstFits (length message) (lines large rows) × (shown (lines large rows) ≡ flat_map (row_octets message) rows)
  rows_shown [] h = (tt, refl)
  rows_shown (row ∷ rows) h =
      let P : Row → Type 0 = λ row. row.end ≤ length message in
      let after = rows_shown rows (All-tail P row rows h) in
      let more = row_shown row (lines large rows) (All-head P row rows h) after.0 in
      (more.0, more.1 ∙ ap (λ l. row_octets message row ++ l) after.1)

-- Rows that are joined have the same octets.
pub joined_octets : (large : Bool) (message : List ℕ) (rows : List Row) → All (λ row. row.end ≤ length message) rows
    → flat_map (row_octets message) (joined large rows) ≡ flat_map (row_octets message) rows
joined_octets large message rows h = (rows_shown large message rows h).1
