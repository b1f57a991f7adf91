-- Mnemonics found by number and by text.
use Rattle.std.proofs.Common.{◌≡◌, ℕ, ◌==◌, ◌+◌, ◌<◌, Bool, true, false, not, ◌&&◌, cond, List, [], ◌∷◌, map, length, drop, get_or, ◌↔◌, refl, sym, ap, ◌∙◌, eq-eqb, add-one}
use Rattle.std.specs.Prelude.{Option, Some, option_map, find}
use Rattle.std.specs.List.{list_all}
use Rattle.std.specs.Str.{str_to_ascii_lowercase, str_eq_ignore_ascii_case, bytes_eq}
use Rattle.std.proofs.Math.Seq.{drop-cons}
use Rattle.std.proofs.lemmas.Bool.{cond_both, cond-true, cond-false, and_parts, false_from_ne_true}
use Rattle.std.proofs.lemmas.Bool.Decides.{Decides-eqb}
use Rattle.std.proofs.lemmas.Slice.Eq.{bytes_eq-Decides}
use Rattle.dns_iana.specs.Mnemonics.{Mnemonics}
use Rattle.dns_iana.specs.Tables.{is_distinct}
use Rattle.dns_iana.specs.NumberTexts.{IsMnemonic}

-- finding in a mapped list is finding in the list
pub find_mapped : {X Y Z : Type 0} (g : X → Y) (f : Y → Z) (p : Y → Bool) (xs : List X)
    → option_map f (find p (map g xs)) ≡ option_map (λ x. f (g x)) (find (λ x. p (g x)) xs)
find_mapped g f p [] = refl
find_mapped g f p (x ∷ xs) =
    elim (p (g x)) as (λ b. option_map f (cond b (Some (g x)) (find p (map g xs))) ≡ option_map (λ y. f (g y)) (cond b (Some x) (find (λ y. p (g y)) xs))) [
      | true ↦ refl
      | false ↦ find_mapped g f p xs
    ]

-- the first match from index `i` on is the element there, if that matches
pub find_here : {X : Type 0} (p : X → Bool) (xs : List X) (i : ℕ) (d : X) → i < length xs → p (get_or xs i d) ≡ true → find p (drop i xs) ≡ Some (get_or xs i d)
find_here p xs i d h t = rw (drop-cons xs i d) (cond-true _ _ _ t)

-- otherwise it is the first match after it
pub find_later : {X : Type 0} (p : X → Bool) (xs : List X) (i : ℕ) (d : X) → i < length xs → p (get_or xs i d) ≡ false → find p (drop (i + 1) xs) ≡ find p (drop i xs)
find_later p xs i d h t = rw (add-one, drop-cons xs i d) (sym (cond-false _ _ _ t))

module _ (text : List ℕ) where
  -- whether the entry's mnemonic is the text, ignoring ASCII case
  abbrev pub is_text : ℕ × List ℕ → Bool
  is_text entry = str_eq_ignore_ascii_case entry.1 text

  -- a text that satisfies a test is no mnemonic of a table where none satisfies it
  pub no_mnemonic : (p : List ℕ → Bool) (names : Mnemonics) (n : ℕ) → list_all (λ other. not (p (str_to_ascii_lowercase other.1))) names ≡ true
      → IsMnemonic names text n → p (str_to_ascii_lowercase text) ≡ true → ⊥
  no_mnemonic p [] n all h t = cc
  no_mnemonic p (entry ∷ names) n all h t =
      let parts = and_parts (not (p (str_to_ascii_lowercase entry.1))) (list_all (λ other. not (p (str_to_ascii_lowercase other.1))) names) all in
      cond_both (entry.0 == n) (Some entry) (find (λ other. other.0 == n) names)
      (λ o. option_map str_to_ascii_lowercase (option_map (λ other. other.1) o) ≡ Some (str_to_ascii_lowercase text) → ⊥)
      (λ same h. let e : str_to_ascii_lowercase entry.1 ≡ str_to_ascii_lowercase text = cc in
      let f : not (p (str_to_ascii_lowercase entry.1)) ≡ false = ap not (ap p e ∙ t) in cc (parts.0, f))
      (λ other h. no_mnemonic p names n parts.1 h t) h

  -- a number that no entry has isn't found by any test
  no_number : (p : ℕ × List ℕ → Bool) (names : Mnemonics) (k n : ℕ) → list_all (λ other. not (k == other.0)) names ≡ true
      → option_map (λ other. other.0) (find p names) ≡ Some n → k ≡ n → ⊥
  no_number p [] k n all h e = cc
  no_number p (entry ∷ names) k n all h e =
      let parts = and_parts (not (k == entry.0)) (list_all (λ other. not (k == other.0)) names) all in
      cond_both (p entry) (Some entry) (find p names)
      (λ o. option_map (λ other. other.0) o ≡ Some n → ⊥)
      (λ first h. let f : entry.0 ≡ n = cc in
      let same : not (k == entry.0) ≡ false = ap not (eq-eqb k entry.0 (e ∙ sym f)) in cc (parts.0, same))
      (λ other h. no_number p names k n parts.1 h e) h

  -- no entry has the number or the mnemonic of the first one, and the others are distinct
  record Distinct (entry : ℕ × List ℕ) (names : Mnemonics) : Type 0 where
    numbers : list_all (λ other. not (entry.0 == other.0)) names ≡ true
    texts : list_all (λ other. not (str_eq_ignore_ascii_case entry.1 other.1)) names ≡ true
    rest : is_distinct names ≡ true

  -- what `is_distinct` says of the first entry and the others
  distinct : (entry : ℕ × List ℕ) (names : Mnemonics) → is_distinct (entry ∷ names) ≡ true → Distinct entry names
  distinct entry names d =
      let first = and_parts (list_all (λ other. not (entry.0 == other.0)) names)
      (list_all (λ other. not (str_eq_ignore_ascii_case entry.1 other.1)) names && is_distinct names) d in
      let second = and_parts (list_all (λ other. not (str_eq_ignore_ascii_case entry.1 other.1)) names) (is_distinct names) first.1 in
      record { numbers = first.0; texts = second.0; rest = second.1 }

  -- searching for a mnemonic finds its number
  text_finds : (names : Mnemonics) (n : ℕ) → is_distinct names ≡ true → IsMnemonic names text n → option_map (λ entry. entry.0) (find is_text names) ≡ Some n
  text_finds [] n d h = cc
  text_finds (entry ∷ names) n d h =
      let differ = distinct entry names d in
      cond_both (entry.0 == n) (Some entry) (find (λ other. other.0 == n) names)
      (λ o. option_map str_to_ascii_lowercase (option_map (λ other. other.1) o) ≡ Some (str_to_ascii_lowercase text)
      → option_map (λ other. other.0) (find is_text (entry ∷ names)) ≡ Some n)
      (λ same h. let e : str_to_ascii_lowercase entry.1 ≡ str_to_ascii_lowercase text = cc in
      let here = cond-true (is_text entry) (Some entry) (find is_text names) ((bytes_eq-Decides _ _).1 e) in
      ap (option_map (λ other. other.0)) here ∙ ap Some ((Decides-eqb entry.0 n).0 same))
      (λ other h.
      let no : is_text entry ≡ true → ⊥ = no_mnemonic (λ m. bytes_eq (str_to_ascii_lowercase entry.1) m) names n differ.texts h in
      let later = cond-false (is_text entry) (Some entry) (find is_text names) (false_from_ne_true (is_text entry) no) in
      ap (option_map (λ other. other.0)) later ∙ text_finds names n differ.rest h)
      h

  -- the number that is found has the text as its mnemonic
  finds_text : (names : Mnemonics) (n : ℕ) → is_distinct names ≡ true → option_map (λ entry. entry.0) (find is_text names) ≡ Some n → IsMnemonic names text n
  finds_text [] n d h = cc
  finds_text (entry ∷ names) n d h =
      let differ = distinct entry names d in
      cond_both (is_text entry) (Some entry) (find is_text names)
      (λ o. option_map (λ other. other.0) o ≡ Some n → IsMnemonic (entry ∷ names) text n)
      (λ same h. let e : entry.0 ≡ n = cc in
      let here = cond-true (entry.0 == n) (Some entry) (find (λ other. other.0 == n) names) (eq-eqb entry.0 n e) in
      ap (λ o. option_map str_to_ascii_lowercase (option_map (λ (other : ℕ × List ℕ). other.1) o)) here ∙ ap Some ((bytes_eq-Decides _ _).0 same))
      (λ other h.
      let no : (entry.0 == n) ≡ true → ⊥ = λ e. no_number is_text names entry.0 n differ.numbers h ((Decides-eqb entry.0 n).0 e) in
      let later = cond-false (entry.0 == n) (Some entry) (find (λ other. other.0 == n) names) (false_from_ne_true (entry.0 == n) no) in
      ap (λ o. option_map str_to_ascii_lowercase (option_map (λ (other : ℕ × List ℕ). other.1) o)) later ∙ finds_text names n differ.rest h)
      h

  -- a text is the mnemonic of the number that is found, and of no other
  pub one_number : (names : Mnemonics) (r : Option ℕ) → is_distinct names ≡ true → option_map (λ entry. entry.0) (find is_text names) ≡ r
      → (n : ℕ) → IsMnemonic names text n ↔ (r ≡ Some n)
  one_number names r d e n = (λ h. sym e ∙ text_finds names n d h, λ h. finds_text names n d (e ∙ h))
