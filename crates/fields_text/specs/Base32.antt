-- Octets in base32 with the extended hexadecimal alphabet, without padding. RFC 4648 section 7, RFC 5155 section 3.3.
use Rattle.std.specs.Prelude.{ℕ, zero, suc, ◌*◌, ◌/◌, ◌%◌, true, List, [], ◌∷◌, ◌++◌}
use Rattle.std.specs.Fmt.{digit_glyph}
use Rattle.fields_text.specs.Number.{number_of}

-- the last `count` digits of a number: 0 to 9, and A to V
unfoldable pub base32_digits : ℕ → ℕ → List ℕ
base32_digits zero number = []
base32_digits (suc count) number = base32_digits count (number / 32) ++ digit_glyph true (number % 32) ∷ []

-- Five octets are eight digits of five bits. At the end one to four octets take two, four, five or seven digits, the last of which is filled up with zero bits.
abbrev pub base32_text : List ℕ → List ℕ
base32_text [] = []
base32_text (a ∷ []) = base32_digits 2 (number_of (a ∷ []) * 4)
base32_text (a ∷ b ∷ []) = base32_digits 4 (number_of (a ∷ b ∷ []) * 16)
base32_text (a ∷ b ∷ c ∷ []) = base32_digits 5 (number_of (a ∷ b ∷ c ∷ []) * 2)
base32_text (a ∷ b ∷ c ∷ d ∷ []) = base32_digits 7 (number_of (a ∷ b ∷ c ∷ d ∷ []) * 8)
base32_text (a ∷ b ∷ c ∷ d ∷ e ∷ after) = base32_digits 8 (number_of (a ∷ b ∷ c ∷ d ∷ e ∷ [])) ++ base32_text after
