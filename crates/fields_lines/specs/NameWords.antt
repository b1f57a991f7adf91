-- Names that are relative to an origin. RFC 1035 section 5.1.
use Rattle.std.specs.Prelude.{ℕ, ◌==◌, ◌&&◌, ◌||◌, not, Bool, false, if◌then◌else◌, Option, Some, option_map, List, [], ◌∷◌, ◌++◌, codes, bytes_eq}
use Rattle.dns_name.specs.NameTexts.{backslash, dot}

-- whether a character is a dot, and no backslash escapes it
abbrev pub is_separator : Bool → ℕ → Bool
is_separator escaped c = not escaped && (c == dot)

-- whether a character is a backslash, and none escapes it
abbrev pub is_escape : Bool → ℕ → Bool
is_escape escaped c = not escaped && (c == backslash)

-- whether a text ends with a dot that no backslash escapes; `separated` and `escaped` say whether such a dot and whether a backslash is before the text
abbrev pub ends_with_dot : Bool → Bool → List ℕ → Bool
ends_with_dot separated escaped [] = separated
ends_with_dot separated escaped (c ∷ text) = ends_with_dot (is_separator escaped c) (is_escape escaped c) text

-- a character that a backslash escapes: of a space and of a tab the decimal number
abbrev pub escaped_text : ℕ → List ℕ
escaped_text c = if c == 0x20 then codes "032" else if c == 0x09 then codes "009" else c ∷ []

-- a text in which a space or a tab that a backslash escapes is written as its decimal number; `escaped` says whether a backslash is before the text
abbrev pub spaced : Bool → List ℕ → List ℕ
spaced escaped [] = []
spaced escaped (c ∷ text) = (if escaped then escaped_text c else c ∷ []) ++ spaced (is_escape escaped c) text

-- what follows a relative name: a dot, and the origin unless it is the root
abbrev pub origin_text : List ℕ → List ℕ
origin_text origin = codes "." ++ (if bytes_eq origin (codes ".") then [] else origin)

-- the complete name that a word represents: `@` is the origin, and a name without a final dot is relative to the origin; none if there is no origin
abbrev pub completed_name : Option (List ℕ) → List ℕ → Option (List ℕ)
completed_name origin word =
    if bytes_eq word (codes "@") then origin
    else if ends_with_dot false false word then Some (spaced false word)
    else option_map (λ name. spaced false word ++ origin_text name) origin

-- whether a word is a relative name, and there is no origin
abbrev pub lacks_origin : Bool → List ℕ → Bool
lacks_origin has_origin word = not has_origin && (bytes_eq word (codes "@") || not (ends_with_dot false false word))
