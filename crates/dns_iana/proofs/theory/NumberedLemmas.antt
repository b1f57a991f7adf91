-- Texts that are a word followed by decimal digits.
use Rattle.std.proofs.Common.{◌≡◌, ℕ, ◌<◌, ◌^◌, true, List, ◌++◌, length, take, drop, ◌↔◌, refl, sym, ap, ◌∙◌, subst, inl, inr, nat_eq}
use Rattle.std.specs.Prelude.{Option, Some, None}
use Rattle.std.specs.List.{starts_with}
use Rattle.std.specs.Option.{SomeIff}
use Rattle.std.specs.Str.{str_to_ascii_lowercase}
use Rattle.std.specs.Str.Parse.{IsNumeral, digits_value}
use Rattle.std.proofs.lemmas.List.{length-map, map-append, take-append-drop}
use Rattle.std.proofs.Math.Seq.{take-append_seam, drop-append_seam}
use Rattle.std.proofs.lemmas.Slice.Eq.{bytes_eq-Decides}
use Rattle.dns_iana.specs.Mnemonics.{Mnemonics}
use Rattle.dns_iana.specs.Tables.{is_apart}
use Rattle.dns_iana.specs.NumberTexts.{IsMnemonic, IsNumbered, Spells}
use Rattle.dns_iana.proofs.theory.MnemonicLemmas.{no_mnemonic}

module _ (word text : List ℕ) where
  -- the front is as long as the word
  same_length : {n : ℕ} (x : IsNumbered word text n) → length x.front ≡ length word
  same_length x = sym (length-map x.front _) ∙ ap length x.same ∙ length-map word _

  -- the digits are the text after it
  digits_are : {n : ℕ} (x : IsNumbered word text n) → drop (length word) text ≡ x.digits
  digits_are x = ap (λ k. drop k text) (sym (same_length x)) ∙ ap (drop (length x.front)) x.whole ∙ drop-append_seam x.front x.digits

  -- the text after the word is a numeral
  numeral_after : {n : ℕ} (x : IsNumbered word text n) → IsNumeral 10 (drop (length word) text)
  numeral_after x = subst (λ ds. IsNumeral 10 ds) (sym (digits_are x)) x.numeral

  -- its value is a 16-bit number
  value_after : {n : ℕ} (x : IsNumbered word text n) → digits_value 10 (drop (length word) text) < 2 ^ 16
  value_after x = subst (λ m. m < 2 ^ 16) (sym (ap (digits_value 10) (digits_are x) ∙ x.value)) x.fits

  -- if the text begins with the word, its number is that of the digits after the word
  pub numbered_is : (r : Option ℕ) → str_to_ascii_lowercase (take (length word) text) ≡ str_to_ascii_lowercase word
      → SomeIff r (IsNumeral 10 (drop (length word) text) × (digits_value 10 (drop (length word) text) < 2 ^ 16)) (digits_value 10 (drop (length word) text))
      → (n : ℕ) → IsNumbered word text n ↔ (r ≡ Some n)
  numbered_is None same h n = (λ x. absurd (h (numeral_after x, value_after x)), λ e. cc)
  numbered_is (Some k) same h n = (
    λ x. ap Some (h.1 ∙ ap (digits_value 10) (digits_are x) ∙ x.value),
    λ e. let k_is : k ≡ n = cc in record {
      front = take (length word) text;
      digits = drop (length word) text;
      whole = sym (take-append-drop (length word) text);
      same = same;
      numeral = h.0.0;
      value = sym h.1 ∙ k_is;
      fits = subst (λ m. m < 2 ^ 16) (sym h.1 ∙ k_is) h.0.1;
    },
  )

  -- a word followed by digits is no mnemonic of a table in which none begins with the word
  pub apart : (names : Mnemonics) (k n : ℕ) → is_apart word names ≡ true → IsMnemonic names text k → IsNumbered word text n → ⊥
  apart names k n all h x =
      let seam : str_to_ascii_lowercase text ≡ str_to_ascii_lowercase word ++ str_to_ascii_lowercase x.digits =
      ap str_to_ascii_lowercase x.whole ∙ map-append _ x.front x.digits ∙ ap (λ xs. xs ++ str_to_ascii_lowercase x.digits) x.same in
      let first : take (length (str_to_ascii_lowercase word)) (str_to_ascii_lowercase text) ≡ str_to_ascii_lowercase word =
      ap (take (length (str_to_ascii_lowercase word))) seam ∙ take-append_seam (str_to_ascii_lowercase word) (str_to_ascii_lowercase x.digits) in
      no_mnemonic text (λ m. starts_with nat_eq m (str_to_ascii_lowercase word)) names k all h ((bytes_eq-Decides _ _).1 (sym first))

  -- a text that is a mnemonic is the text of that number and of no other
  pub spells_mnemonic : (names : Mnemonics) (k : ℕ) → is_apart word names ≡ true → ((n : ℕ) → IsMnemonic names text n ↔ (Some k ≡ Some n)) → (n : ℕ) → Spells names word text n ↔ (Some k ≡ Some n)
  spells_mnemonic names k all h n = (
    elim [ inl x ↦ (h n).0 x | inr x ↦ absurd (apart names k n all ((h k).1 refl) x) ],
    λ e. inl ((h n).1 e),
  )

  -- a text that is no mnemonic is the text of the number in the digits after its word
  pub spells_numbered : (names : Mnemonics) (r : Option ℕ) → ((n : ℕ) → IsMnemonic names text n ↔ (None ≡ Some n)) → ((n : ℕ) → IsNumbered word text n ↔ (r ≡ Some n))
      → (n : ℕ) → Spells names word text n ↔ (r ≡ Some n)
  spells_numbered names r none h n = (
    elim [ inl x ↦ (let e = (none n).0 x in cc e) | inr x ↦ (h n).0 x ],
    λ e. inr ((h n).1 e),
  )
