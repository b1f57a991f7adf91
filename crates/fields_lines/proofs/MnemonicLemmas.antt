-- Searching a table of names from index `i` on, and names with vertical bars between them.
use Rattle.std.proofs.Common.{◌≡◌, ◌∙◌, ℕ, suc, ◌+◌, ◌<◌, ◌≤◌, Bool, List, [], ◌∷◌, ◌++◌, length, drop, get_or, refl, sym, ap, arith, ne_eqb}
use Rattle.std.specs.Prelude.{Some, None, option_map, option_and_then, find, bit_or}
use Rattle.std.specs.Borrow.{Bor}
use Rattle.std.specs.Str.{str_to_ascii_lowercase, str_eq_ignore_ascii_case}
use Rattle.std.proofs.lemmas.List.{at_drop_all}
use Rattle.std.proofs.lemmas.Bool.{cond-false, false_from_ne_true}
use Rattle.std.proofs.lemmas.Slice.Eq.{bytes_eq-Decides}
use Rattle.dns_iana.specs.Tables.{table}
use Rattle.dns_iana.proofs.theory.MnemonicLemmas.{find_mapped, find_here, find_later}
use Rattle.fields_text.proofs.theory.LastSplits.{Lacks}
use Rattle.fields_lines.specs.Mnemonics.{flags_after, key_flags, named, parts_of, with_first}

-- an entry of a table as the code stores it
abbrev Entry : Type 0
Entry = ℕ × Bor (List ℕ)

module _ (names : List Entry) (i : ℕ) (text : List ℕ) where
  abbrev has_text : Entry → Bool
  has_text name = str_eq_ignore_ascii_case name.1.now text

  -- no earlier entry has the text
  abbrev pub TextFrom : Type 0
  TextFrom = find (λ (name : Entry). str_eq_ignore_ascii_case name.1.now text) (drop i names) ≡ find (λ (name : Entry). str_eq_ignore_ascii_case name.1.now text) names

  -- the number of a name, by the entries as stored
  stored : named (table names) text ≡ option_map (λ (name : Entry). name.0) (find has_text names)
  stored = find_mapped (λ (name : Entry). let entry : ℕ × List ℕ = (name.0, name.1.now) in entry) (λ entry. entry.0) (λ entry. str_eq_ignore_ascii_case entry.1 text) names

  -- the entry at the index has the name
  pub name_here : (d : Entry) → TextFrom → i < length names → str_to_ascii_lowercase (get_or names i d).1.now ≡ str_to_ascii_lowercase text → Some (get_or names i d).0 ≡ named (table names) text
  name_here d from h e =
      let here = find_here has_text names i d h ((bytes_eq-Decides _ _).1 e) in
      ap (option_map (λ (name : Entry). name.0)) (sym here ∙ from) ∙ sym stored

  -- no entry has the name
  pub name_nowhere : TextFrom → length names ≤ i → None ≡ named (table names) text
  name_nowhere from h =
      let none = at_drop_all (find has_text) names i h in
      ap (option_map (λ (name : Entry). name.0)) (sym none ∙ from) ∙ sym stored

  -- the entry at the index doesn't have the name either
  pub name_later : (d : Entry) → TextFrom → i < length names → (str_to_ascii_lowercase (get_or names i d).1.now ≡ str_to_ascii_lowercase text → ⊥)
      → find (λ (name : Entry). str_eq_ignore_ascii_case name.1.now text) (drop (i + 1) names) ≡ find (λ (name : Entry). str_eq_ignore_ascii_case name.1.now text) names
  name_later d from h other =
      let no = false_from_ne_true (str_eq_ignore_ascii_case (get_or names i d).1.now text) (λ same. other ((bytes_eq-Decides _ _).0 same)) in
      find_later has_text names i d h no ∙ from

-- a text without a bar is its only part
pub part_alone : (text : List ℕ) → Lacks 124 text → parts_of text ≡ text ∷ []
part_alone [] none = refl
part_alone (c ∷ text) none = cond-false _ _ _ (ne_eqb c 124 (none 0 (omega arith))) ∙ ap (with_first c) (part_alone text (λ i h. none (suc i) (omega arith)))

-- the text before the first bar is the first part
pub first_part : (first others : List ℕ) → Lacks 124 first → parts_of (first ++ 124 ∷ others) ≡ first ∷ parts_of others
first_part [] others none = refl
first_part (c ∷ first) others none =
    cond-false _ _ _ (ne_eqb c 124 (none 0 (omega arith))) ∙ ap (with_first c) (first_part first others (λ i h. none (suc i) (omega arith)))

module _ (flags : ℕ) (left : List ℕ) where
  -- the flag of the first part, and then those of the others
  pub flag_step : (flag : ℕ) (name others : List ℕ) → left ≡ name ++ 124 ∷ others → Lacks 124 name → Some flag ≡ named key_flags name
      → flags_after flags (parts_of left) ≡ flags_after (bit_or flags flag) (parts_of others)
  flag_step flag name others whole none e =
      ap (λ (text : List ℕ). flags_after flags (parts_of text)) whole
      ∙ ap (flags_after flags) (first_part name others none)
      ∙ sym (ap (option_and_then (λ (f : ℕ). flags_after (bit_or flags f) (parts_of others))) e)

  -- the first part is no name
  pub flag_none : (name others : List ℕ) → left ≡ name ++ 124 ∷ others → Lacks 124 name → None ≡ named key_flags name → flags_after flags (parts_of left) ≡ None
  flag_none name others whole none e =
      ap (λ (text : List ℕ). flags_after flags (parts_of text)) whole
      ∙ ap (flags_after flags) (first_part name others none)
      ∙ sym (ap (option_and_then (λ (f : ℕ). flags_after (bit_or flags f) (parts_of others))) e)

  -- the only part
  pub flag_last : (flag : ℕ) → Lacks 124 left → Some flag ≡ named key_flags left → flags_after flags (parts_of left) ≡ Some (bit_or flags flag)
  flag_last flag none e =
      ap (flags_after flags) (part_alone left none) ∙ sym (ap (option_and_then (λ (f : ℕ). flags_after (bit_or flags f) [])) e)

  -- the only part is no name
  pub last_none : Lacks 124 left → None ≡ named key_flags left → flags_after flags (parts_of left) ≡ None
  last_none none e =
      ap (flags_after flags) (part_alone left none) ∙ sym (ap (option_and_then (λ (f : ℕ). flags_after (bit_or flags f) [])) e)
