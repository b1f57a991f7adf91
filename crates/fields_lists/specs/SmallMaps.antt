-- Type bit maps of RFC 2535.
use Rattle.std.specs.Prelude.{ℕ, List}
use Rattle.fields_lists.specs.declared.type_map.SmallTypeMap.{SmallTypeMap}

-- the octets of the map
abbrev pub small_octets : SmallTypeMap → List ℕ
small_octets map = map.octets.now
