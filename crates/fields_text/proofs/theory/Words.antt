-- Printed values are words.
use Rattle.std.proofs.Common.{◌≡◌, ℕ, ◌<◌, ◌^◌, List, true, length, decimal}
use Rattle.base64.specs.Engines.{standard}
use Rattle.base64.specs.GeneralPurpose.{encode_of}
use Rattle.hex.specs.Hex.{IsBytes}
use Rattle.fields_text.specs.Hex.{hex_text}
use Rattle.fields_text.specs.String.{is_tag}
use Rattle.fields_text.specs.LineWords.{IsWord}
use Rattle.fields_text.proofs.theory.WordTexts.{is_word, decimal_word as bare_decimal_word, tag_word as bare_tag_word, hex_word as bare_hex_word, base64_word as bare_base64_word}

-- A decimal number is a word.
pub decimal_word : (n : ℕ) → n < 2 ^ 64 → IsWord (decimal n)
decimal_word n first = is_word (bare_decimal_word n first)

-- A tag is a word.
pub tag_word : (octets : List ℕ) → is_tag octets ≡ true → IsWord octets
tag_word octets first = is_word (bare_tag_word octets first)

-- Hexadecimal digits are a word.
pub hex_word : (octets : List ℕ) → IsBytes octets → 0 < length octets → IsWord (hex_text octets)
hex_word octets first second = is_word (bare_hex_word octets first second)

-- Base64 is a word.
pub base64_word : (octets : List ℕ) → 0 < length octets → IsWord (encode_of standard octets)
base64_word octets first = is_word (bare_base64_word octets first)
