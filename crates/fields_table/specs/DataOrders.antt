-- How parts and RDATA compare, and what they feed a hasher.
use Rattle.std.specs.Prelude.{ℕ, Bool, List, [], ◌==◌, ◌++◌}
use Rattle.std.specs.Cmp.Lexicographic.{pointwise, slice_cmp}
use Rattle.std.specs.Hash as fed
use Rattle.std.specs.List.{flat_map}
use Rattle.std.specs.Ordering.{nat_cmp, on, then_cmp, eq_of_both}
use Rattle.std.specs.declared.cmp.Ordering.{Ordering}
use Rattle.dns_name.specs.Names.{Labels, uncompressed}
use Rattle.dns_name.specs.NameOrders.{names_equal, name_order, name_hash_input}
use Rattle.dns_wire.specs.Parts.{Part}
use Rattle.dns_wire.specs.Parts.Part.{Octets, CompressibleName, UncompressedName}
use Rattle.dns_data.specs.CanonicalOrders.{octet_order}
use Rattle.dns_data.specs.DataOrders.{octets_equal, octets_hash_input}
use Rattle.dns_data.specs.RecordData.{canonical}
use Rattle.fields_table.specs.Data.{rtype_of, parts_of}
use Rattle.fields_table.specs.declared.field_data.FieldData.{FieldData}

-- 0 for octets, 1 for a name
abbrev pub rank : Part → ℕ
rank (Octets octets) = 0
rank (CompressibleName name) = 1
rank (UncompressedName lowercased name) = 1

-- the octets of a part, if it is octets
abbrev pub octets_in : Part → List ℕ
octets_in (Octets octets) = octets
octets_in (CompressibleName name) = []
octets_in (UncompressedName lowercased name) = []

-- the name of a part, if it is a name
abbrev pub name_in : Part → Labels
name_in (Octets octets) = []
name_in (CompressibleName name) = name
name_in (UncompressedName lowercased name) = name

-- Octets are equal if they are the same, and names if they are the same ignoring ASCII case. RFC 1035 section 2.3.3.
abbrev pub part_equal : Part → Part → Bool
part_equal = eq_of_both (on rank ◌==◌) (eq_of_both (on octets_in octets_equal) (on name_in names_equal))

-- The order of parts: octets by the first octet that differs, names by their labels from the root leftwards (RFC 4034 section 6.1), and octets before names.
abbrev pub part_order : Part → Part → Ordering
part_order = then_cmp (on rank nat_cmp) (then_cmp (on octets_in octet_order) (on name_in name_order))

-- what a part feeds a hasher
abbrev pub part_hash_input : Part → fed.HashWrites
part_hash_input (Octets octets) = octets_hash_input octets
part_hash_input (CompressibleName name) = name_hash_input name
part_hash_input (UncompressedName lowercased name) = name_hash_input name

-- RDATA is equal if the types and the parts are
abbrev pub data_equal : FieldData → FieldData → Bool
data_equal = eq_of_both (on rtype_of ◌==◌) (on parts_of (pointwise part_equal))

-- The order of RDATA: by the types, then by the first parts that differ.
abbrev pub data_order : FieldData → FieldData → Ordering
data_order = then_cmp (on rtype_of nat_cmp) (on parts_of (slice_cmp part_order))

-- what RDATA feeds a hasher: the type, then the parts in order
abbrev pub data_hash_input : FieldData → fed.HashWrites
data_hash_input value = fed.u16 (rtype_of value) ++ flat_map part_hash_input (parts_of value)

-- the octets of a part, uncompressed
abbrev pub part_octets : Part → List ℕ
part_octets (Octets octets) = octets
part_octets (CompressibleName name) = uncompressed name
part_octets (UncompressedName lowercased name) = uncompressed name

-- the octets of parts, uncompressed
abbrev pub octets_of_parts : List Part → List ℕ
octets_of_parts parts = flat_map part_octets parts

-- the octets of parts in canonical form. RFC 4034 section 6.2.
abbrev pub octets_in_canonical_form : List Part → List ℕ
octets_in_canonical_form parts = octets_of_parts (canonical parts)

-- the octets of RDATA in canonical form
abbrev pub canonical_octets : FieldData → List ℕ
canonical_octets value = octets_in_canonical_form (parts_of value)

-- The canonical order of RDATA: by the types, then by all octets of the canonical form. RFC 4034 section 6.3.
abbrev pub data_canonical_order : FieldData → FieldData → Ordering
data_canonical_order = then_cmp (on rtype_of nat_cmp) (on canonical_octets octet_order)
