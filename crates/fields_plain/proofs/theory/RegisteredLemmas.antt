-- Texts of numbers by their registered names.
use Rattle.std.proofs.Common.{◌≡◌, ◌∙◌, ℕ, ◌<◌, ◌^◌, true, List, ◌++◌, length, drop, refl, sym, ap, arith, inl, inr}
use Rattle.std.proofs.Math.Seq.{drop-append_seam}
use Rattle.std.proofs.lemmas.Fmt.{decimal_is_IsNumeral}
use Rattle.std.proofs.lemmas.List.{length-map}
use Rattle.std.specs.Char.{to_ascii_lowercase}
use Rattle.std.specs.Prelude.{Option, Some, None, codes, decimal, option_map, unwrap_or, ◌↔◌, Result, Ok, Err, OnOk, IfErr}
use Rattle.std.specs.Str.{str_to_ascii_lowercase}
use Rattle.std.specs.Str.Parse.{digits_value}
use Rattle.dns_iana.specs.Mnemonics.{Mnemonics, mnemonic}
use Rattle.dns_iana.specs.NumberTexts.{IsNumbered, Spells, number_text}
use Rattle.dns_iana.specs.Registry.{registered_types}
use Rattle.dns_iana.specs.Tables.{is_apart, is_distinct}
use Rattle.dns_iana.proofs.theory.MnemonicLemmas.{one_number}
use Rattle.dns_iana.proofs.theory.NumberedLemmas.{apart}
use Rattle.fields_plain.specs.TypeWords.{IsTypeWord, IsType}
use Rattle.fields_plain.specs.TypeNames.{type_word}
use Rattle.fields_text.specs.declared.text_error.TextError.{TextError}
use Rattle.fields_text.specs.declared.text_error.TextError.TheVariants.{OutOfMemory}
use Rattle.fields_text.specs.Base32Words.{last_octets}
use Rattle.fields_text.specs.Reading.{AppendsOctets}

module _ (names : Mnemonics) (word : List ℕ) where
  by_name : (n : ℕ) → n < 2 ^ 16 → (o : Option (List ℕ)) → mnemonic names n ≡ o → Spells names word (unwrap_or o (word ++ decimal n)) n
  by_name n small (Some m) e = inl (ap (option_map str_to_ascii_lowercase) e)
  by_name n small None e =
      let digits = decimal_is_IsNumeral n (omega arith) in
      inr record { front = word; digits = decimal n; whole = refl; same = refl; numeral = digits.0; value = digits.1; fits = small }

  -- the printed text of a number is one of that number
  pub printed_spells : (n : ℕ) → n < 2 ^ 16 → Spells names word (number_text names word n) n
  printed_spells n small = by_name n small (mnemonic names n) refl

  module _ (text : List ℕ) where
    digits_at : (n : ℕ) (x : IsNumbered word text n) → drop (length word) text ≡ x.digits
    digits_at n x =
        let size : length word ≡ length x.front = sym (length-map word to_ascii_lowercase) ∙ ap length (sym x.same) ∙ length-map x.front to_ascii_lowercase in
        ap (λ (k : ℕ). drop k text) size ∙ ap (λ (xs : List ℕ). drop (length x.front) xs) x.whole ∙ drop-append_seam x.front x.digits

    -- a text is of at most one number, if no two names are equal and none begins with the word
    pub one_spelled : is_distinct names ≡ true → is_apart word names ≡ true → (k n : ℕ) → Spells names word text k → Spells names word text n → k ≡ n
    one_spelled distinct all k n (inl h) (inl g) =
        let e : Some k ≡ Some n = sym ((one_number text names _ distinct refl k).0 h) ∙ (one_number text names _ distinct refl n).0 g in cc e
    one_spelled distinct all k n (inl h) (inr y) = absurd (apart word text names k n all h y)
    one_spelled distinct all k n (inr x) (inl g) = absurd (apart word text names n k all g x)
    one_spelled distinct all k n (inr x) (inr y) = sym x.value ∙ ap (digits_value 10) (sym (digits_at k x) ∙ digits_at n y) ∙ y.value

types_distinct : is_distinct registered_types ≡ true
unfolding registered_types
types_distinct = refl

types_apart : is_apart (codes "TYPE") registered_types ≡ true
unfolding registered_types
types_apart = refl

-- A word is at most one type.
pub one_word : (word : List ℕ) (k n : ℕ) → IsTypeWord word k → IsTypeWord word n → k ≡ n
one_word word = one_spelled registered_types (codes "TYPE") word types_distinct types_apart

-- The printed word of a type reads back.
pub types_read_back : (n : ℕ) → n < 2 ^ 16 → IsTypeWord (type_word n) n
types_read_back = printed_spells registered_types (codes "TYPE")

-- a record type
pub type_appended : (word old new : List ℕ) (rtype n k : ℕ) (result : Result Unit TextError) → ((m : ℕ) → IsTypeWord word m ↔ (Some rtype ≡ Some m)) → k ≡ n → n ≡ rtype
    → OnOk result (new ≡ old ++ last_octets 2 k) → IfErr result (λ error. error ≡ OutOfMemory) → AppendsOctets (IsType word) old new result
type_appended word old new rtype n k (Ok u) is e f ok err = (last_octets 2 k, (k, (is k).1 (ap (λ m. Some m) (sym (e ∙ f))), refl), ok)
type_appended word old new rtype n k (Err error) is e f ok err = inl (err, (last_octets 2 k, (k, (is k).1 (ap (λ m. Some m) (sym (e ∙ f))), refl)))
