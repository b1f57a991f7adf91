-- Keys of service parameters. RFC 9460 section 2.1.
use Rattle.std.specs.Prelude.{◌≡◌, ◌⊎◌, ℕ, ◌<◌, ◌^◌, List, ◌++◌, codes, decimal, Some}
use Rattle.fields_parameters.specs.Parameters.{key_name}

-- the text is the name of the key
abbrev pub IsNamedKey : List ℕ → ℕ → Type 0
IsNamedKey text key = key_name key ≡ Some text

-- the text is a number of 16 bits in decimal digits, without leading zeros
abbrev pub IsPlainNumber : List ℕ → ℕ → Type 0
IsPlainNumber text number = (number < 2 ^ 16) × (text ≡ decimal number)

-- the text is `key` and the number of the key
abbrev pub IsNumberedKey : List ℕ → ℕ → Type 0
IsNumberedKey text key = (key < 2 ^ 16) × (text ≡ codes "key" ++ decimal key)

-- the text is one of these
abbrev pub IsKey : List ℕ → ℕ → Type 0
IsKey text key = IsNamedKey text key ⊎ IsNumberedKey text key
