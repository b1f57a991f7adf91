-- How fields compare, one by one.
use Rattle.std.specs.Prelude.{ℕ, Bool, true, false, List, map}
use Rattle.std.specs.Cmp.Lexicographic.{slice_cmp}
use Rattle.std.specs.Ordering.{nat_cmp, on, then_cmp}
use Rattle.std.specs.declared.cmp.Ordering.{Ordering}
use Rattle.dns_wire.specs.Parts.{Part}
use Rattle.dns_data.specs.CanonicalOrders.{octet_order}
use Rattle.dns_data.specs.RecordData.{canonical_part}
use Rattle.fields_table.specs.Data.{rtype_of, parts_of}
use Rattle.fields_table.specs.DataOrders.{part_order, part_octets}
use Rattle.fields_table.specs.FieldParts.{fields_left}
use Rattle.fields_table.specs.declared.field_data.FieldData.{FieldData}
use Rattle.fields_table.specs.declared.fields.Fields.{Fields}

-- the octets of a part in canonical form
abbrev pub canonical_part_octets : Part → List ℕ
canonical_part_octets part = part_octets (canonical_part part)

-- the order of parts, or of their octets in canonical form
abbrev pub field_order : Bool → Part → Part → Ordering
field_order true = on canonical_part_octets octet_order
field_order false = part_order

-- the parts of the remaining fields
abbrev pub parts_left : Fields → List Part
parts_left fields = map (λ named. named.part) (fields_left fields)

-- RDATA by the types, then by the first parts that differ
abbrev pub order_by_fields : Bool → FieldData → FieldData → Ordering
order_by_fields canonical = then_cmp (on rtype_of nat_cmp) (on parts_of (slice_cmp (field_order canonical)))
