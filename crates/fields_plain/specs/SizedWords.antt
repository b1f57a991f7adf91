-- Words that represent octets after their length. RFC 8945 section 4.2.
use Rattle.std.specs.Prelude.{ℕ, List, ◌++◌, length, decimal, ◌≡◌, ◌==◌, ◌<◌, Bool, [], ◌∷◌}
use Rattle.fields_text.specs.Keys.{key_text}
use Rattle.std.specs.Borrow.{Bor}
use Rattle.std.specs.Net.Grammar.{IsNumber}
use Rattle.fields_text.specs.Octets.{IsBase64}
use Rattle.fields_text.specs.LengthOctets.{sized}

-- the number of octets, and the octets in base64 if there are any
abbrev pub sized_text : List ℕ → List ℕ
sized_text octets = decimal (length octets) ++ key_text octets

-- the word is octets in base64, and a length of 16 bits counts them; there is one at least
abbrev pub IsCountedBase64 : List ℕ → List ℕ → Type 0
IsCountedBase64 word octets = IsBase64 word octets × (0 < length octets) × (length octets < 65536)

-- the words are a zero for no octets, or the number of octets and these in base64
abbrev pub AreSized : List (Bor (List ℕ)) → List ℕ → Type 0
AreSized (number ∷ []) octets = IsNumber 10 number.now 0 × (octets ≡ [])
AreSized (number ∷ word ∷ []) octets = IsNumber 10 number.now (length octets) × IsCountedBase64 word.now octets
AreSized _ octets = ⊥

-- the words represent octets, and these are the octets after their length
abbrev pub IsSizedWords : List (Bor (List ℕ)) → List ℕ → Type 0
IsSizedWords words all = (octets : List ℕ) × AreSized words octets × (all ≡ sized octets)

-- whether a character is padding of base64: an equals sign. RFC 4648 section 4
abbrev pub is_padding : ℕ → Bool
is_padding character = character == 0x3d
