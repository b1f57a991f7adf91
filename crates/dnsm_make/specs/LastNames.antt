-- The name that a target wrote last. RFC 1035 section 4.1.4.
use Rattle.std.specs.Prelude.{◌≡◌, ◌<◌, ℕ, Some, length}
use Rattle.std.specs.FinMap.{get}
use Rattle.dns_name.specs.Names.{Labels}
use Rattle.dns_wire.specs.Encoders.{TableEntry, Tree, encode_name, encode_octets, pointer}
use Rattle.dns_wire.specs.Targets.{Written}

-- the offset is 0, or that of a name in the compression table
abbrev pub IsLast : Written → ℕ → Type 0
IsLast w last = 0 < last → (name : Labels) × (entry : TableEntry) × (get w.table name ≡ Some entry) × (entry.offset ≡ last)

-- the encoding of the name is a pointer to the offset
abbrev pub IsPointer : Written → Labels → ℕ → Type 0
IsPointer w name offset = encode_name Tree name w.table (length w.octets) ≡ encode_octets (pointer offset) w.table (length w.octets)
