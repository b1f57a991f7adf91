-- Names of a list with commas between them, of which a first part is read. RFC 9460 appendix A.1.
use Rattle.std.specs.Prelude.{◌≡◌, ℕ, ◌==◌, ◌<◌, ◌≤◌, if◌then◌else◌, Bool, List, [], ◌∷◌, ◌++◌, map, length, Option, Some, None}
use Rattle.std.specs.List.{AllByRecursion, flat_map}
use Rattle.fields_text.specs.Separated.{comma_text}
use Rattle.fields_text.specs.String.{backslash}
use Rattle.fields_text.specs.Strings.{SpellsOctets}
use Rattle.fields_plain.specs.Salts.{IsCounted}
use Rattle.fields_parameters.specs.ParameterValues.{comma, escaped}
use Rattle.fields_parameters.specs.PushedValues.{PushesValue}

-- the octet after a backslash, if it is a comma or a backslash, and the text after it
abbrev pub escaped_at : List ℕ → Option (ℕ × List ℕ)
escaped_at [] = None
escaped_at (octet ∷ after) =
    if octet == comma then Some (octet, after)
    else if octet == backslash then Some (octet, after)
    else None

-- the octet that a name begins with, and the text after it
abbrev pub octet_at : List ℕ → Option (ℕ × List ℕ)
octet_at [] = None
octet_at (first ∷ after) =
    if first == comma then None
    else if first == backslash then escaped_at after
    else Some (first, after)

-- the octets are a name of 1 to 255 octets after its length
abbrev pub IsCountedName : List ℕ → List ℕ → Type 0
IsCountedName name octets = IsCounted name × (octets ≡ length name ∷ name)

-- the text is the names of a list, and the first one begins with the octets `name`, which aren't in the text
pub record NamesFrom (name text value : List ℕ) : Type 0 where
  pub more : List ℕ
  pub others : List (List ℕ)
  pub counted : AllByRecursion IsCounted ((name ++ more) ∷ others)
  pub listed : text ≡ comma_text (map escaped (more ∷ others))
  pub octets : value ≡ flat_map (λ name. length name ∷ name) ((name ++ more) ∷ others)

-- a text of a character string spells such names
abbrev pub SpellsNames : List ℕ → List ℕ → List ℕ → Type 0
SpellsNames name text value = (octets : List ℕ) × SpellsOctets text octets × NamesFrom name octets value

-- A list of the octet `first` and those that the text spells begins with an octet of a name. Those that `left` spells come next, and `left` isn't longer than the text.
pub record BeginsName (first : ℕ) (text : List ℕ) (octet : ℕ) (left : List ℕ) : Type 0 where
  pub begins : (octets : List ℕ) → SpellsOctets text octets → (others : List ℕ) × SpellsOctets left others × (octet_at (first ∷ octets) ≡ Some (octet, others))
  pub follows : (others : List ℕ) → SpellsOctets left others → (octets : List ℕ) × SpellsOctets text octets × (octet_at (first ∷ octets) ≡ Some (octet, others))
  pub shorter : length left ≤ length text

-- such a list begins with no octet of a name
abbrev pub BeginsNone : ℕ → List ℕ → Type 0
BeginsNone first text = (octets : List ℕ) → SpellsOctets text octets → octet_at (first ∷ octets) ≡ None

-- the names of a text, if it spells any, make more than `most` octets after those of a value
abbrev pub NamesExceed : (most : ℕ) (name text value : List ℕ) → Type 0
NamesExceed most name text value = (octets : List ℕ) → SpellsNames name text octets → most < length (value ++ octets)

-- what appending the names of a text returns, which follows from what appending those that are left after a first part of it returns
abbrev pub ContinuesNames : (most : ℕ) (name text value begun left now : List ℕ) → Type 0
ContinuesNames most name text value begun left now =
    (new : List ℕ) (pushed : Bool) → PushesValue most (SpellsNames begun left) now new pushed → PushesValue most (SpellsNames name text) value new pushed
