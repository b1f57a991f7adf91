-- Words that represent octets in base32 with the extended hexadecimal alphabet, without padding. RFC 4648 section 7, RFC 5155 section 3.3.
use Rattle.std.specs.Prelude.{◌≡◌, ◌⊎◌, ℕ, zero, suc, ◌/◌, ◌%◌, ◌^◌, ◌<◌, List, [], ◌∷◌, ◌++◌, length, Result, MatchResult}
use Rattle.std.specs.Str.{str_to_ascii_uppercase}
use Rattle.hex.specs.Hex.{IsBytes}
use Rattle.fields_text.specs.Base32.{base32_digits, base32_text}
use Rattle.fields_text.specs.declared.text_error.TextError.{TextError}
use Rattle.fields_text.specs.Reading.{Fails}

-- the word is the printed text of the octets, ignoring ASCII case
abbrev pub IsBase32 : List ℕ → List ℕ → Type 0
IsBase32 word octets = IsBytes octets × (str_to_ascii_uppercase word ≡ base32_text octets)

-- these are digits of a number, ignoring ASCII case
abbrev pub IsDigits : List ℕ → ℕ → Type 0
IsDigits digits n = (n < 32 ^ length digits) × (str_to_ascii_uppercase digits ≡ base32_digits (length digits) n)

-- the last `count` octets of a number
unfoldable pub last_octets : ℕ → ℕ → List ℕ
last_octets zero n = []
last_octets (suc count) n = last_octets count (n / 256) ++ (n % 256) ∷ []

-- n digits are `size` octets, and `spare` numbers fit into the bits left over
abbrev pub IsGroupSize : ℕ → ℕ → ℕ → Type 0
IsGroupSize n size spare =
    ((n ≡ 2) × (size ≡ 1) × (spare ≡ 4))
    ⊎ (((n ≡ 4) × (size ≡ 2) × (spare ≡ 16))
    ⊎ (((n ≡ 5) × (size ≡ 3) × (spare ≡ 2))
    ⊎ (((n ≡ 7) × (size ≡ 4) × (spare ≡ 8)) ⊎ ((n ≡ 8) × (size ≡ 5) × (spare ≡ 1)))))

-- the octets that the digits represent are appended, or why there are none
abbrev pub AppendsBase32 : List ℕ → List ℕ → List ℕ → Result Unit TextError → Type 0
AppendsBase32 digits old new result =
    MatchResult result (λ _. (octets : List ℕ) × (new ≡ old ++ octets) × IsBase32 digits octets)
    (Fails (IsBase32 digits))
