-- Consecutive character strings. RFC 1035 section 3.3.14.
use Rattle.std.specs.Prelude.{ℕ, zero, suc, Bool, true, false, List, [], ◌∷◌, map, take, drop, Option, Some, None}
use Rattle.fields_text.specs.String.{quoted}
use Rattle.fields_text.specs.Separated.{spaced}
use Rattle.fields_lists.specs.Items.{items_of}

-- `left` octets that end a character string, and then character strings: a length octet and that number of octets each
abbrev pub strings_after : ℕ → List ℕ → Bool
strings_after zero [] = true
strings_after (suc left) [] = false
strings_after zero (size ∷ octets) = strings_after size octets
strings_after (suc left) (octet ∷ octets) = strings_after left octets

-- consecutive character strings, one at least
abbrev pub are_strings : List ℕ → Bool
are_strings [] = false
are_strings (size ∷ octets) = strings_after size octets

-- the character string at the start of octets, and the octets after it: a length octet and that number of octets, or as many as there are
abbrev pub string_at : List ℕ → Option (List ℕ × List ℕ)
string_at [] = None
string_at (size ∷ octets) = Some (take size octets, drop size octets)

-- the character strings of octets
abbrev pub strings_of : List ℕ → List (List ℕ)
strings_of octets = items_of string_at octets

-- character strings in quotes, separated by spaces
abbrev pub strings_text : List ℕ → List ℕ
strings_text octets = spaced (map quoted (strings_of octets))
