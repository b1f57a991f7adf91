-- Objects and arrays with their members and items in lists. RFC 8259 sections 4 and 5.
use Rattle.std.specs.Prelude.{ℕ, List, [], ◌∷◌, decimal}
use Rattle.json.specs.Json.{Json, number, array, object, Members, no_members, member}
use Rattle.json.specs.Value.{items_of}

-- a member: its name and its value
abbrev pub Member : Type 0
Member = List ℕ × Json

-- members in the grammar
abbrev pub members_of : List Member → Members
members_of [] = no_members
members_of (m ∷ ms) = member m.0 m.1 (members_of ms)

-- the object with these members, in order
abbrev pub object_of : List Member → Json
object_of ms = object (members_of ms)

-- the array with these items
abbrev pub array_of : List Json → Json
array_of js = array (items_of js)

-- a number in decimal digits
abbrev pub numeral : ℕ → Json
numeral n = number (decimal n)
