-- The text of a JSON value, without white space, and its pieces. RFC 8259 sections 2, 4 and 5.
use Rattle.std.specs.Prelude.{ℕ, Bool, true, if◌then◌else◌, List, [], ◌∷◌, ◌++◌, codes}
use Rattle.std.specs.List.{flat_map}
use Rattle.json.specs.Json.{Json}
use Rattle.json.specs.Print.{print, quoted}
use Rattle.json.specs.Tree.{json_tokens}
use Rattle.json_print.specs.Values.{Member}

-- the text of a value: that of its tokens
abbrev pub json_text : Json → List ℕ
json_text j = print (json_tokens j)

-- the word for true or false
abbrev pub boolean_word : Bool → List ℕ
boolean_word b = if b then codes "true" else codes "false"

-- the name of a member, and a colon
abbrev pub name_text : List ℕ → List ℕ
name_text name = quoted name ++ codes ":"

-- a member that follows another, after a comma
abbrev pub member_text : Member → List ℕ
member_text m = codes "," ++ name_text m.0 ++ json_text m.1

-- members that follow another, each after a comma
abbrev pub members_text : List Member → List ℕ
members_text ms = flat_map member_text ms

-- an object with these members, up to its closing brace
abbrev pub object_front : List Member → List ℕ
object_front [] = codes "{"
object_front (m ∷ ms) = codes "{" ++ name_text m.0 ++ json_text m.1 ++ members_text ms

-- the comma before an item or a member that follows another
abbrev pub comma_if : Bool → List ℕ
comma_if later = if later then codes "," else []

-- items, each after a comma; the first only if it follows another
abbrev pub items_text : Bool → List Json → List ℕ
items_text later [] = []
items_text later (j ∷ js) = comma_if later ++ json_text j ++ items_text true js
