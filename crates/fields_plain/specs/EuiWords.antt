-- Words that represent EUI-48 and EUI-64 addresses. RFC 7043.
use Rattle.std.specs.Prelude.{◌≡◌, ℕ, ◌/◌, ◌%◌, ◌<◌, false, List, ◌++◌, length, Option, MatchOption}
use Rattle.std.specs.Borrow.{Bor}
use Rattle.std.specs.Char.{to_ascii_lowercase}
use Rattle.std.specs.Fmt.{digit_glyph}
use Rattle.std.specs.Str.{str_to_ascii_lowercase}
use Rattle.hex.specs.Hex.{IsBytes}
use Rattle.fields_plain.specs.EuiTexts.{eui_text, hyphen_pair}

-- the digits are those of the octet, ignoring ASCII case
abbrev pub IsPair : ℕ → ℕ → ℕ → Type 0
IsPair high low octet =
    (octet < 256)
    × (to_ascii_lowercase high ≡ digit_glyph false (octet / 16))
    × (to_ascii_lowercase low ≡ digit_glyph false (octet % 16))

-- a text begins with a hyphen and the digits of an octet
abbrev pub BeginsWithPair : List ℕ → ℕ → List ℕ → Type 0
BeginsWithPair text octet after = (octet < 256) × (str_to_ascii_lowercase text ≡ hyphen_pair octet ++ after)

-- that octet and the text after it, if there is one
abbrev pub SplitsPair : List ℕ → Option (ℕ × Bor (List ℕ)) → Type 0
SplitsPair text result =
    MatchOption result ((octet : ℕ) (after : List ℕ) → ¬ (BeginsWithPair text octet after))
    (λ split. BeginsWithPair text split.0 (str_to_ascii_lowercase split.1.now))

-- the word is the printed text of the octets, ignoring ASCII case
pub record IsEuiWord (size : ℕ) (word octets : List ℕ) : Type 0 where
  pub sized : length octets ≡ size
  pub bytes : IsBytes octets
  pub text : str_to_ascii_lowercase word ≡ eui_text octets
