-- What is printed reads back.
use Rattle.std.specs.Prelude.{◌≡◌, ℕ, ◌<◌, ◌^◌, List, decimal, true, length}
use Rattle.hex.specs.Hex.{IsBytes}
use Rattle.std.specs.Str.Parse.{IsNumeral, digits_value}
use Rattle.base64.specs.Engines.{standard}
use Rattle.base64.specs.GeneralPurpose.{encode_of}
use Rattle.fields_text.specs.Hex.{hex_text}
use Rattle.fields_text.specs.Octets.{IsHex, IsBase64}
use Rattle.fields_text.specs.String.{is_tag, quoted}
use Rattle.fields_text.specs.Strings.{SpellsString}
use Rattle.fields_text.specs.LineWords.{AreWordsOf, IsWord}

-- a number in decimal digits
abbrev pub NumbersReadBack : Type 0
NumbersReadBack = (n : ℕ) → n < 2 ^ 64 → IsNumeral 10 (decimal n) × (digits_value 10 (decimal n) ≡ n)

-- octets in hexadecimal
abbrev pub HexReadsBack : Type 0
HexReadsBack = (octets : List ℕ) → IsBytes octets → IsHex (hex_text octets) octets

-- octets in base64
abbrev pub Base64ReadsBack : Type 0
Base64ReadsBack = (octets : List ℕ) → IsBytes octets → IsBase64 (encode_of standard octets) octets

-- character strings in quotes
abbrev pub StringsReadBack : Type 0
StringsReadBack = (octets : List ℕ) → IsBytes octets → SpellsString (quoted octets) octets

-- tags
abbrev pub TagsReadBack : Type 0
TagsReadBack = (octets : List ℕ) → is_tag octets ≡ true → SpellsString octets octets

-- words represent at most one value
abbrev pub RepresentsOne : {W X : Type 0} → (W → X → Type 0) → Type 0
RepresentsOne {W} {X} Represents = (words : W) (x y : X) → Represents words x → Represents words y → x ≡ y

-- a line has at most one list of words
abbrev pub WordsAreUnique : Type 0
WordsAreUnique = (line : List ℕ) (first second : List (List ℕ)) → AreWordsOf line first → AreWordsOf line second → first ≡ second

-- the text of octets is a word, if there are any
abbrev pub IsWordOfAny : (List ℕ → List ℕ) → Type 0
IsWordOfAny text = (octets : List ℕ) → IsBytes octets → 0 < length octets → IsWord (text octets)

-- numbers
abbrev pub NumbersAreWords : Type 0
NumbersAreWords = (n : ℕ) → n < 2 ^ 64 → IsWord (decimal n)

-- character strings in quotes
abbrev pub StringsAreWords : Type 0
StringsAreWords = (octets : List ℕ) → IsWord (quoted octets)

-- tags
abbrev pub TagsAreWords : Type 0
TagsAreWords = (octets : List ℕ) → is_tag octets ≡ true → IsWord octets

abbrev pub HexIsWord : Type 0
HexIsWord = IsWordOfAny hex_text

abbrev pub Base64IsWord : Type 0
Base64IsWord = IsWordOfAny (encode_of standard)
