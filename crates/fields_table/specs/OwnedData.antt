-- RDATA that owns its octets: its type, and its parts.
use Rattle.std.specs.Prelude.{◌≡◌, ℕ, List}
use Rattle.dns_wire.specs.Parts.{Part}
use Rattle.fields_table.specs.Data.{rtype_of, parts_of}
use Rattle.fields_table.specs.OwnedFields.{parts_in}
use Rattle.fields_table.specs.declared.field_data.FieldData.{FieldData}
use Rattle.fields_table.specs.declared.owned.OwnedFieldData.{OwnedFieldData}

abbrev pub owned_rtype_of : OwnedFieldData → ℕ
owned_rtype_of owned = owned.rtype

abbrev pub owned_parts_of : OwnedFieldData → List Part
owned_parts_of owned = parts_in owned.rtype owned.octets.items

-- a copy has the same type and parts
abbrev pub keeps_data : FieldData → OwnedFieldData → Type 0
keeps_data source owned = (owned_rtype_of owned ≡ rtype_of source) × (owned_parts_of owned ≡ parts_of source)
