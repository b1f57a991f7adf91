-- What is printed of a list of values reads back as that list.
use Rattle.std.specs.Prelude.{◌≡◌, ℕ, true, List, length, map, Some, ◌<◌, ◌^◌, All}
use Rattle.std.specs.Borrow.{Bor}
use Rattle.hex.specs.Hex.{IsBytes}
use Rattle.fields_lists.specs.Prefixes.{are_prefixes, prefixes_text, has_word, prefix_text}
use Rattle.fields_lists.specs.TypeMaps.{is_type_map, is_small_map, map_types, octet_types, types_text}
use Rattle.fields_lists.specs.PrefixItems.{PrefixItem, prefixes_of}
use Rattle.fields_text.specs.Separated.{spaced}
use Rattle.fields_lists.specs.PrefixWords.{ArePrefixWords, IsPrefixWord}
use Rattle.fields_lists.specs.TypeMapWords.{AreTypeTexts, IsSmallTypeMap, IsTypeMap}
use Rattle.fields_text.specs.LineWords.{IsWord, AreWordsOf}
use Rattle.fields_text.specs.String.{quoted}
use Rattle.fields_lists.specs.Strings.{strings_text, strings_of}
use Rattle.fields_plain.specs.TypeNames.{type_word}

-- address prefixes that have a presentation format
abbrev pub PrefixesReadBack : Type 0
PrefixesReadBack = (item : PrefixItem) → IsBytes item.address → has_word item ≡ true → IsPrefixWord (prefix_text item) item

-- a field of address prefixes: as many words as prefixes, of which the texts with a space between them are the printed text
abbrev pub PrefixFieldsReadBack : Type 0
PrefixFieldsReadBack = (words : List (Bor (List ℕ))) (octets text : List ℕ) → IsBytes octets → are_prefixes octets ≡ true → prefixes_text octets ≡ Some text
    → length words ≡ length (prefixes_of octets) → spaced (map (λ word. word.now) words) ≡ text → ArePrefixWords words octets

-- type bit maps of all types
abbrev pub TypeMapsReadBack : Type 0
TypeMapsReadBack = (words : List (Bor (List ℕ))) (octets : List ℕ) → IsBytes octets → is_type_map octets ≡ true → AreTypeTexts words (map_types octets) → IsTypeMap words octets

-- type bit maps of types up to 127
abbrev pub SmallTypeMapsReadBack : Type 0
SmallTypeMapsReadBack = (words : List (Bor (List ℕ))) (octets : List ℕ) → IsBytes octets → is_small_map octets ≡ true → AreTypeTexts words (octet_types 0 octets) → IsSmallTypeMap words octets

-- address prefixes
abbrev pub PrefixesAreWords : Type 0
PrefixesAreWords = (item : PrefixItem) → IsBytes item.address → item.family < 2 ^ 16 → item.size < 256 → IsWord (prefix_text item)

-- character strings
abbrev pub StringsSplit : Type 0
StringsSplit = (octets : List ℕ) → AreWordsOf (strings_text octets) (map quoted (strings_of octets))

-- record types
abbrev pub TypesSplit : Type 0
TypesSplit = (types : List ℕ) → All (λ n. n < 2 ^ 16) types → AreWordsOf (types_text types) (map type_word types)

-- address prefixes that have a presentation format
abbrev pub PrefixesSplit : Type 0
PrefixesSplit = (octets text : List ℕ) → IsBytes octets → prefixes_text octets ≡ Some text → AreWordsOf text (map prefix_text (prefixes_of octets))
