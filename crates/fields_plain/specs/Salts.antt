-- Words that represent salts and hashes. RFC 5155 section 3.3.
use Rattle.std.specs.Prelude.{ℕ, List, [], ◌∷◌, codes, ◌≡◌, ◌<◌, ◌≤◌, ◌⊎◌, length}
use Rattle.fields_text.specs.Hex.{hex_text}
use Rattle.fields_text.specs.Octets.{IsHex}
use Rattle.fields_text.specs.Base32Words.{IsBase32}
use Rattle.fields_text.specs.LengthOctets.{counted}

-- a salt: hexadecimal digits, or a hyphen if there are no octets. RFC 5155 section 3.3
abbrev pub salt_text : List ℕ → List ℕ
salt_text [] = codes "-"
salt_text (x ∷ xs) = hex_text (x ∷ xs)

-- a length octet counts them, and there is one at least
abbrev pub IsCounted : List ℕ → Type 0
IsCounted octets = (0 < length octets) × (length octets ≤ 255)

-- the word is hexadecimal digits of octets, and a length octet counts them; there is one at least
abbrev pub IsCountedHex : List ℕ → List ℕ → Type 0
IsCountedHex word octets = IsHex word octets × IsCounted octets

-- the word is a hyphen for no octets, or hexadecimal digits of the octets
abbrev pub IsSaltWord : List ℕ → List ℕ → Type 0
IsSaltWord word octets = ((word ≡ codes "-") × (octets ≡ [])) ⊎ (IsHex word octets × IsCounted octets)

-- the word is base32 digits of the octets
abbrev pub IsHashWord : List ℕ → List ℕ → Type 0
IsHashWord word octets = IsBase32 word octets × IsCounted octets

-- a salt, and a hash. RFC 5155 section 3.3
abbrev pub IsSalt : List ℕ → List ℕ → Type 0
IsSalt word octets = (salt : List ℕ) × IsSaltWord word salt × (octets ≡ counted salt)

abbrev pub IsHash : List ℕ → List ℕ → Type 0
IsHash word octets = (hash : List ℕ) × IsHashWord word hash × (octets ≡ counted hash)
