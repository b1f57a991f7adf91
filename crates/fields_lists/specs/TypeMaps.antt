-- Type bit maps. RFC 4034 section 4.1.2.
use Rattle.std.specs.Prelude.{ℕ, zero, suc, ◌+◌, ◌-◌, nat_le, nat_lt, ◌&&◌, Bool, true, false, List, [], ◌∷◌, slice_index, ◌*◌, ◌%◌, ◌==◌, not, if◌then◌else◌, ◌++◌, length, take, drop, Option, Some, None, codes}
use Rattle.std.specs.List.{flat_map}
use Rattle.fields_lists.specs.Items.{items_of}
use Rattle.fields_plain.specs.TypeNames.{type_word}

-- a bit map of this size at the start of the octets: 1 to 32 octets, the last of which isn't zero
abbrev pub is_bit_map : ℕ → List ℕ → Bool
is_bit_map size octets = nat_le 1 size && nat_le size 32 && nat_lt 0 (slice_index octets (size - 1))

-- `left` octets that end a bit map, and then blocks: a window number, a size, and a bit map of that size each; window numbers increase, and begin at `least` or above it
abbrev pub blocks_after : ℕ → ℕ → List ℕ → Bool
blocks_after least zero [] = true
blocks_after least (suc left) [] = false
blocks_after least zero (window ∷ []) = false
blocks_after least zero (window ∷ size ∷ octets) =
    nat_le least window && is_bit_map size octets && blocks_after (window + 1) size octets
blocks_after least (suc left) (octet ∷ octets) = blocks_after least left octets

abbrev pub is_type_map : List ℕ → Bool
is_type_map octets = blocks_after 0 0 octets

-- the types of the `count` high bits of an octet, from `first` on; the highest bit is the first
abbrev pub bit_types : ℕ → ℕ → ℕ → List ℕ
bit_types zero first octet = []
bit_types (suc count) first octet =
    (if nat_le 128 octet then first ∷ [] else []) ++ bit_types count (first + 1) (octet % 128 * 2)

-- the types of octets with a bit for each type from `first` on
abbrev pub octet_types : ℕ → List ℕ → List ℕ
octet_types first [] = []
octet_types first (octet ∷ octets) = bit_types 8 first octet ++ octet_types (first + 8) octets

-- a block: the window's first type, and the octets of its types
pub record Block : Type 0 where
  pub first : ℕ
  pub octets : List ℕ

-- the block at the start of octets, and the octets after it: a window number, a length of at most 32, and that number of octets
abbrev pub block_at : List ℕ → Option (Block × List ℕ)
block_at (window ∷ size ∷ octets) =
    if nat_le size 32 && nat_le size (length octets)
    then Some (record { first = window * 256; octets = take size octets }, drop size octets)
    else None
block_at _ = None

-- the types of consecutive blocks
abbrev pub map_types : List ℕ → List ℕ
map_types octets = flat_map (λ block. octet_types block.first block.octets) (items_of block_at octets)

-- types as words, each after a space
abbrev pub types_text : List ℕ → List ℕ
types_text types = flat_map (λ rtype. codes " " ++ type_word rtype) types

-- whether the last octet isn't zero
abbrev pub ends_nonzero : List ℕ → Bool
ends_nonzero [] = false
ends_nonzero (octet ∷ []) = not (octet == 0)
ends_nonzero (octet ∷ next ∷ octets) = ends_nonzero (next ∷ octets)

-- whether octets have a bit for each type from 0 to 127, without trailing zero octets; a first bit of one says that the format is another
abbrev pub is_small_map : List ℕ → Bool
is_small_map [] = false
is_small_map (octet ∷ octets) = nat_lt octet 128 && nat_lt (length octets) 16 && ends_nonzero (octet ∷ octets)
