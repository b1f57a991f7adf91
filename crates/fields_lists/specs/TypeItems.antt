-- The types that an iterator has left.
use Rattle.std.specs.Prelude.{◌≡◌, ℕ, ◌+◌, ◌*◌, ◌<◌, List, [], ◌∷◌, ◌++◌, length, Option, Some, None}
use Rattle.fields_lists.specs.TypeMaps.{bit_types, map_types, octet_types}
use Rattle.fields_lists.specs.declared.types.Types.{Types}

-- the types of `count` bits of an octet, of the octets after it, and of the blocks after them
abbrev pub types_after : ℕ → ℕ → ℕ → List ℕ → List ℕ → List ℕ
types_after first count octet block left = bit_types count first octet ++ (octet_types (first + count) block ++ map_types left)

abbrev pub types_left : Types → List ℕ
types_left types = types_after types.first types.count types.octet types.block.now types.left.now

-- at most as many steps are left
abbrev pub steps_left : Types → ℕ
steps_left types = types.count + (9 * length types.block.now + 9 * length types.left.now)

-- a step of the iterator; a type is yielded if a bit was set
abbrev pub Steps : Types → Option (Types × Option ℕ) → Type 0
Steps types None = types_left types ≡ []
Steps types (Some (after, None)) = (types_left types ≡ types_left after) × (steps_left after < steps_left types)
Steps types (Some (after, Some rtype)) = (types_left types ≡ rtype ∷ types_left after) × (steps_left after < steps_left types)
