-- Texts that are appended one after another.
use Rattle.std.proofs.Common.{◌≡◌, ◌∙◌, ℕ, ◌+◌, ◌<◌, Option, Result, OnOk, List, [], ◌∷◌, ◌++◌, take, length, get_or, ap, subst, sym, append_assoc, append-nil}
use Rattle.std.specs.Io.KnownBytes.{Appends}
use Rattle.std.specs.List.{concat, flat_map, AllZip}
use Rattle.std.proofs.lemmas.Grind.{flat_map-append}
use Rattle.std.proofs.lemmas.List.{take_more}
use Rattle.dns_lines.proofs.theory.AppendedTexts.{appends_both, appends_none}
use Rattle.dns_lines.proofs.theory.PrintedLines.{on_ok}
use Rattle.dnsview_tool.specs.Printed.{Prints, PrintsEach}

-- an equal text is appended
pub appends_same : (a b : Option (List ℕ)) (xs ys : List ℕ) → xs ≡ ys → Appends a b xs → Appends a b ys
appends_same a b xs ys e h = subst (λ (l : List ℕ). Appends a b l) e h

-- one text more in a concatenation
concat_more : (texts : List (List ℕ)) (text : List ℕ) → concat (texts ++ text ∷ []) ≡ concat texts ++ text
concat_more [] text = append-nil text
concat_more (first ∷ texts) text = ap (λ l. first ++ l) (concat_more texts text) ∙ sym (append_assoc first (concat texts) text)

module _ {X : Type 0} (IsText : X → List ℕ → Type 0) where
  zip_more : (xs : List X) (texts : List (List ℕ)) (x : X) (text : List ℕ) → AllZip IsText xs texts → IsText x text → AllZip IsText (xs ++ x ∷ []) (texts ++ text ∷ [])
  zip_more [] [] x text h k = (k, tt)
  zip_more [] (first ∷ texts) x text h k = absurd h
  zip_more (first ∷ xs) [] x text h k = absurd h
  zip_more (first ∷ xs) (front ∷ texts) x text h k = (h.0, zip_more xs texts x text h.1 k)

  -- no text is printed at first
  pub none_printed : (old : Option (List ℕ)) → PrintsEach IsText [] old old
  none_printed old = ([], tt, appends_none old)

  -- the text of the next item is printed
  pub more_printed : (xs : List X) (i : ℕ) (d : X) (a b c : Option (List ℕ)) → i < length xs → PrintsEach IsText (take i xs) a b
      → Prints (IsText (get_or xs i d)) b c → PrintsEach IsText (take (i + 1) xs) a c
  more_printed xs i d a b c within p h = (
    p.0 ++ h.0 ∷ [],
    subst (λ (l : List X). AllZip IsText l (p.0 ++ h.0 ∷ [])) (sym (take_more xs i d within)) (zip_more (take i xs) p.0 (get_or xs i d) h.0 p.1 h.1),
    appends_same a c _ _ (sym (concat_more p.0 h.0)) (appends_both a b c (concat p.0) h.0 p.2 h.2),
  )

-- the texts of the first items of a list are appended, then that of the next item
pub appended_more : {X : Type 0} (f : X → List ℕ) (xs : List X) (i : ℕ) (d : X) (a b c : Option (List ℕ)) → i < length xs → Appends a b (flat_map f (take i xs))
    → Appends b c (f (get_or xs i d)) → Appends a c (flat_map f (take (i + 1) xs))
appended_more f xs i d a b c within h k =
    let x = get_or xs i d in
    let more = ap (flat_map f) (take_more xs i d within) ∙ flat_map-append f (take i xs) (x ∷ []) ∙ ap (λ l. flat_map f (take i xs) ++ l) (append-nil (f x)) in
    appends_same a c _ _ (sym more) (appends_both a b c (flat_map f (take i xs)) (f x) h k)

-- an equal text is printed
pub printed_same : {X E : Type 0} (a b : Option (List ℕ)) (xs ys : List ℕ) (r : Result X E) → xs ≡ ys → OnOk r (Appends a b xs) → OnOk r (Appends a b ys)
printed_same a b xs ys r e h = on_ok r (appends_same a b xs ys e) h

-- a text is printed, and then another
pub printed_both : {X E : Type 0} (a b c : Option (List ℕ)) (xs ys : List ℕ) (r : Result X E) → Appends a b xs → OnOk r (Appends b c ys) → OnOk r (Appends a c (xs ++ ys))
printed_both a b c xs ys r h k = on_ok r (appends_both a b c xs ys h) k
