-- Searching a table of mnemonics from index `i` on, if no earlier entry is the one searched for.
use Rattle.std.proofs.Common.{◌≡◌, ℕ, ◌==◌, ◌+◌, true, ◌<◌, ◌≤◌, List, length, drop, get_or, sym, ap, ◌∙◌, ◌↔◌, eq-eqb}
use Rattle.std.specs.Prelude.{Some, None, option_map, find}
use Rattle.std.specs.Borrow.{Bor}
use Rattle.std.specs.Str.{str_to_ascii_lowercase, str_eq_ignore_ascii_case}
use Rattle.std.proofs.lemmas.List.{at_drop_all}
use Rattle.std.proofs.lemmas.Bool.{false_from_ne_true}
use Rattle.std.proofs.lemmas.Slice.Eq.{bytes_eq-Decides}
use Rattle.dns_iana.specs.Mnemonics.{mnemonic}
use Rattle.dns_iana.specs.NumberTexts.{IsMnemonic}
use Rattle.dns_iana.specs.Tables.{table, is_distinct}
use Rattle.dns_iana.proofs.theory.MnemonicLemmas.{find_mapped, find_here, is_text, one_number, find_later}

-- an entry of a table as the code stores it
abbrev Entry : Type 0
Entry = ℕ × Bor (List ℕ)

module _ (names : List Entry) (i : ℕ) where
  -- no earlier entry has the number
  abbrev pub NumberFrom : ℕ → Type 0
  NumberFrom n = find (λ name. name.0 == n) (drop i names) ≡ find (λ name. name.0 == n) names

  -- no earlier entry has the text
  abbrev pub TextFrom : List ℕ → Type 0
  TextFrom text = find (λ name. str_eq_ignore_ascii_case name.1.now text) (drop i names) ≡ find (λ name. str_eq_ignore_ascii_case name.1.now text) names

  -- the mnemonic of a number, by the entries as stored
  named : (n : ℕ) → mnemonic (table names) n ≡ option_map (λ name. name.1.now) (find (λ name. name.0 == n) names)
  named n = find_mapped (λ (name : Entry). let entry : ℕ × List ℕ = (name.0, name.1.now) in entry) (λ entry. entry.1) (λ entry. entry.0 == n) names

  -- the entry at the index has the number
  pub number_here : (n : ℕ) (d : Entry) → NumberFrom n → i < length names → (get_or names i d).0 ≡ n → Some (get_or names i d).1.now ≡ mnemonic (table names) n
  number_here n d from h e =
      let here = find_here (λ name. name.0 == n) names i d h (eq-eqb (get_or names i d).0 n e) in
      ap (option_map (λ (name : Entry). name.1.now)) (sym here ∙ from) ∙ sym (named n)

  -- no entry has the number
  pub number_nowhere : (n : ℕ) → NumberFrom n → length names ≤ i → None ≡ mnemonic (table names) n
  number_nowhere n from h =
      let none = at_drop_all (find (λ (name : Entry). name.0 == n)) names i h in
      ap (option_map (λ (name : Entry). name.1.now)) (sym none ∙ from) ∙ sym (named n)

  -- the number of a mnemonic, by the entries as stored
  meaning_of : (text : List ℕ) → option_map (λ entry. entry.0) (find (is_text text) (table names)) ≡ option_map (λ name. name.0) (find (λ name. str_eq_ignore_ascii_case name.1.now text) names)
  meaning_of text = find_mapped (λ (name : Entry). let entry : ℕ × List ℕ = (name.0, name.1.now) in entry) (λ entry. entry.0) (is_text text) names

  -- the mnemonic at the index is the text
  pub text_here : (text : List ℕ) (d : Entry) → is_distinct (table names) ≡ true → TextFrom text → i < length names
      → str_to_ascii_lowercase (get_or names i d).1.now ≡ str_to_ascii_lowercase text
      → (n : ℕ) → IsMnemonic (table names) text n ↔ (Some (get_or names i d).0 ≡ Some n)
  text_here text d distinct from h e =
      let here = find_here (λ name. str_eq_ignore_ascii_case name.1.now text) names i d h ((bytes_eq-Decides _ _).1 e) in
      one_number text (table names) _ distinct (meaning_of text ∙ ap (option_map (λ (name : Entry). name.0)) (sym from ∙ here))

  -- no mnemonic is the text
  pub text_nowhere : (text : List ℕ) → is_distinct (table names) ≡ true → TextFrom text → length names ≤ i
      → (n : ℕ) → IsMnemonic (table names) text n ↔ (None ≡ Some n)
  text_nowhere text distinct from h =
      let none = at_drop_all (find (λ (name : Entry). str_eq_ignore_ascii_case name.1.now text)) names i h in
      one_number text (table names) None distinct (meaning_of text ∙ ap (option_map (λ (name : Entry). name.0)) (sym from ∙ none))

  -- the mnemonic at the index isn't the text either
  pub text_later : (text : List ℕ) (d : Entry) → TextFrom text → i < length names
      → (str_to_ascii_lowercase (get_or names i d).1.now ≡ str_to_ascii_lowercase text → ⊥)
      → find (λ name. str_eq_ignore_ascii_case name.1.now text) (drop (i + 1) names) ≡ find (λ name. str_eq_ignore_ascii_case name.1.now text) names
  text_later text d from h other =
      let no = false_from_ne_true (str_eq_ignore_ascii_case (get_or names i d).1.now text) (λ same. other ((bytes_eq-Decides _ _).0 same)) in
      find_later (λ name. str_eq_ignore_ascii_case name.1.now text) names i d h no ∙ from
