-- The steps of writing base32.
use Rattle.std.proofs.Common.{◌≡◌, ℕ, zero, suc, ◌-◌, ◌<◌, ◌/◌, ◌%◌, true, [], ◌∷◌, ◌++◌, ◌≤◌, List, length, take, drop, refl, ap, arith}
use Rattle.std.specs.Fmt.{digit_glyph}
use Rattle.fields_text.specs.Base32.{base32_digits, base32_text}
use Rattle.fields_text.specs.Number.{number_of}

-- no digits
pub digits_none : (number : ℕ) → base32_digits 0 number ≡ []
unfolding base32_digits
digits_none number = refl

-- the last digit, after the others
pub digits_more : (count number : ℕ) → 0 < count → base32_digits count number ≡ base32_digits (count - 1) (number / 32) ++ digit_glyph true (number % 32) ∷ []
unfolding base32_digits
digits_more zero number positive = absurd (omega arith)
digits_more (suc count) number positive =
    let same : count ≡ suc count - 1 = omega arith in
    ap (λ c. base32_digits c (number / 32) ++ digit_glyph true (number % 32) ∷ []) same

-- five octets at least: eight digits, and then the octets after them
pub text_of_five : (octets : List ℕ) → 5 ≤ length octets → base32_text octets ≡ base32_digits 8 (number_of (take 5 octets)) ++ base32_text (drop 5 octets)
text_of_five [] h = absurd (omega arith)
text_of_five (a ∷ []) h = absurd (omega arith)
text_of_five (a ∷ b ∷ []) h = absurd (omega arith)
text_of_five (a ∷ b ∷ c ∷ []) h = absurd (omega arith)
text_of_five (a ∷ b ∷ c ∷ d ∷ []) h = absurd (omega arith)
text_of_five (a ∷ b ∷ c ∷ d ∷ e ∷ octets) h = refl
