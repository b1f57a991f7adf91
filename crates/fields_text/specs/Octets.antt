-- Words that represent octets: hexadecimal digits in either case, and base64 with padding. RFC 4648 sections 8 and 4.
use Rattle.std.specs.Prelude.{◌≡◌, ℕ, List, Ok}
use Rattle.base64.specs.Engines.{standard}
use Rattle.base64.specs.GeneralPurpose.{decode_of as base64_decoded}
use Rattle.hex.specs.Hex.{decode_of as hex_decoded}

-- the word is hexadecimal digits of the octets
abbrev pub IsHex : List ℕ → List ℕ → Type 0
IsHex word octets = hex_decoded word ≡ Ok octets

-- the word is the octets in base64
abbrev pub IsBase64 : List ℕ → List ℕ → Type 0
IsBase64 word octets = base64_decoded standard word ≡ Ok octets
