-- Each text is the text of one type, or of none. The same holds of classes.
use Rattle.std.proofs.Common.{◌≡◌, ℕ, ◌<◌, ◌^◌, ◌⊎◌, inl, inr, true, List, [], ◌∷◌, length, take, drop, ◌↔◌, refl, sym, ap, ◌∙◌, codes, arith}
use Rattle.std.specs.Prelude.{Option, Some, None, option_map, find}
use Rattle.std.specs.Char.{digit_value}
use Rattle.std.specs.Option.{SomeIff}
use Rattle.std.specs.Str.{str_to_ascii_lowercase, bytes_eq}
use Rattle.std.specs.Str.Parse.{AllDigits, IsNumeral, digits_value}
use Rattle.std.proofs.lemmas.Bool.{cases_lt, cases_Bool}
use Rattle.std.proofs.lemmas.List.{length-map}
use Rattle.std.proofs.lemmas.Slice.Eq.{bytes_eq-Decides}
use Rattle.std.proofs.Math.Seq.{take-append_seam}
use Rattle.dns_iana.specs.Classes.{SpellsClass}
use Rattle.dns_iana.specs.Mnemonics.{Mnemonics, type_mnemonics, class_mnemonics}
use Rattle.dns_iana.specs.NumberTexts.{IsMnemonic, IsNumbered, Spells}
use Rattle.dns_iana.specs.Tables.{is_distinct, is_apart}
use Rattle.dns_iana.specs.Types.{SpellsType}
use Rattle.dns_iana.proofs.theory.MnemonicLemmas.{is_text, one_number}
use Rattle.dns_iana.proofs.theory.NumberedLemmas.{numbered_is, spells_mnemonic, spells_numbered}

-- a fact holds of one number, or of none
abbrev pub OneOrNone : (ℕ → Type 0) → Type 0
OneOrNone Holds = (r : Option ℕ) × ((n : ℕ) → Holds n ↔ (r ≡ Some n))

all_digits : (ds : List ℕ) → AllDigits 10 ds ⊎ (AllDigits 10 ds → ⊥)
all_digits [] = inl tt
all_digits (c ∷ ds) = elim (cases_lt (digit_value c) 10) [
  | inl h ↦ elim (all_digits ds) [ inl all ↦ inl (h, all) | inr never ↦ inr (λ all. never all.1) ]
  | inr h ↦ inr (λ all. let below = all.0 in absurd (omega arith))
]

numeral : (ds : List ℕ) → IsNumeral 10 ds ⊎ (IsNumeral 10 ds → ⊥)
numeral ds = elim (cases_lt 0 (length ds)) [
  | inl h ↦ elim (all_digits ds) [ inl all ↦ inl (h, all) | inr never ↦ inr (λ x. never x.1) ]
  | inr h ↦ inr (λ x. let some = x.0 in absurd (omega arith))
]

-- the number in decimal digits, if it has 16 bits
decimal_number : (ds : List ℕ) → (r : Option ℕ) × SomeIff r (IsNumeral 10 ds × (digits_value 10 ds < 2 ^ 16)) (digits_value 10 ds)
decimal_number ds = elim (numeral ds) [
  | inl is ↦ elim (cases_lt (digits_value 10 ds) (2 ^ 16)) [
    | inl h ↦ (Some (digits_value 10 ds), ((is, h), refl))
    | inr h ↦ (None, λ x. let small = x.1 in absurd (omega arith))
  ]
  | inr never ↦ (None, λ x. never x.0)
]

module _ (word text : List ℕ) where
  -- the front of the text is the word, ignoring ASCII case
  same_front : {n : ℕ} → IsNumbered word text n → str_to_ascii_lowercase (take (length word) text) ≡ str_to_ascii_lowercase word
  same_front x =
      let same_length : length x.front ≡ length word = sym (length-map x.front _) ∙ ap length x.same ∙ length-map word _ in
      let front_is : take (length word) text ≡ x.front = ap (λ k. take k text) (sym same_length) ∙ ap (take (length x.front)) x.whole ∙ take-append_seam x.front x.digits in
      ap str_to_ascii_lowercase front_is ∙ x.same

  numbered : OneOrNone (IsNumbered word text)
  numbered =
      let front : List ℕ = str_to_ascii_lowercase (take (length word) text) in
      let lowered : List ℕ = str_to_ascii_lowercase word in
      let decides = bytes_eq-Decides front lowered in
      elim (cases_Bool (bytes_eq front lowered)) [
        | inl same ↦ (let number = decimal_number (drop (length word) text) in (number.0, numbered_is word text number.0 (decides.0 same) number.1))
        | inr other ↦ (None, λ n. (λ x. (let same = decides.1 (same_front x) in cc (same, other)), λ e. cc))
      ]

  spelled_by : (names : Mnemonics) (o : Option ℕ) → is_apart word names ≡ true → ((n : ℕ) → IsMnemonic names text n ↔ (o ≡ Some n)) → OneOrNone (Spells names word text)
  spelled_by names (Some k) apart h = (Some k, spells_mnemonic word text names k apart h)
  spelled_by names None apart h = let x = numbered in (x.0, spells_numbered word text names x.0 h x.1)

  spelled_of : (names : Mnemonics) → is_distinct names ≡ true → is_apart word names ≡ true → OneOrNone (Spells names word text)
  spelled_of names distinct apart =
      let o : Option ℕ = option_map (λ entry. entry.0) (find (is_text text) names) in
      spelled_by names o apart (one_number text names o distinct refl)

-- A text spells one type or none.
pub type_of : (text : List ℕ) → OneOrNone (SpellsType text)
unfolding type_mnemonics
type_of text = spelled_of (codes "TYPE") text type_mnemonics refl refl

-- A text spells one class or none.
pub class_of : (text : List ℕ) → OneOrNone (SpellsClass text)
unfolding class_mnemonics
class_of text = spelled_of (codes "CLASS") text class_mnemonics refl refl

-- the number whose text it is is the one that is found
pub found : (Holds : ℕ → Type 0) (x : OneOrNone Holds) (n : ℕ) → Holds n → x.0 ≡ Some n
found Holds x n h = (x.1 n).0 h

-- if it is the text of no number, none is found
pub none_found : (Holds : ℕ → Type 0) (x : OneOrNone Holds) → ((n : ℕ) → Holds n → ⊥) → x.0 ≡ None
none_found Holds x none = by x.0 x.1
  where
    by : (r : Option ℕ) → ((n : ℕ) → Holds n ↔ (r ≡ Some n)) → r ≡ None
    by None h = refl
    by (Some k) h = absurd (none k ((h k).1 refl))
