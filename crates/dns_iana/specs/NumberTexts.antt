-- The texts of 16-bit numbers, some of which have mnemonics. RFC 3597 section 5.
use Rattle.std.specs.Prelude.{◌≡◌, ℕ, ◌<◌, ◌^◌, ◌⊎◌, ◌↔◌, List, ◌++◌, Some, option_map, unwrap_or, Result, Ok, decimal}
use Rattle.std.specs.Str.{str_to_ascii_lowercase}
use Rattle.std.specs.Str.Parse.{IsNumeral, digits_value}
use Rattle.dns_iana.specs.Mnemonics.{Mnemonics, mnemonic}

-- the printed text of a number: its mnemonic if it has one, else the word and the decimal digits
abbrev pub number_text : Mnemonics → List ℕ → ℕ → List ℕ
number_text names word n = unwrap_or (mnemonic names n) (word ++ decimal n)

-- the text is the mnemonic of the number, ignoring ASCII case
abbrev pub IsMnemonic : Mnemonics → List ℕ → ℕ → Type 0
IsMnemonic names text n = option_map str_to_ascii_lowercase (mnemonic names n) ≡ Some (str_to_ascii_lowercase text)

-- the text is the word, ignoring ASCII case, followed by decimal digits of the number, perhaps with leading zeros
pub record IsNumbered (word text : List ℕ) (n : ℕ) : Type 0 where
  pub front : List ℕ
  pub digits : List ℕ
  pub whole : text ≡ front ++ digits
  pub same : str_to_ascii_lowercase front ≡ str_to_ascii_lowercase word
  pub numeral : IsNumeral 10 digits
  pub value : digits_value 10 digits ≡ n
  pub fits : n < 2 ^ 16

-- the text is one of the number: its mnemonic, or the word and decimal digits
abbrev pub Spells : Mnemonics → List ℕ → List ℕ → ℕ → Type 0
Spells names word text n = IsMnemonic names text n ⊎ IsNumbered word text n

-- reading a text returns the number whose text it is, or an error if there is none
abbrev pub ReadsNumber : {E : Type 0} → (ℕ → Type 0) → Result ℕ E → Type 0
ReadsNumber IsSpelled r = (n : ℕ) → IsSpelled n ↔ (r ≡ Ok n)
