-- What is true of record data as text.
use Rattle.std.specs.Prelude.{◌≡◌}
use Rattle.std.specs.List.{flat_map}
use Rattle.fields_table.specs.Data.{parts_of}
use Rattle.fields_table.specs.declared.field_data.FieldData.{FieldData}
use Rattle.fields_records.specs.DataTexts.{data_fields}
use Rattle.fields_table.specs.DataOrders.{part_octets}
use Rattle.fields_records.specs.FieldTexts.{fields_octets}

-- the octets of the fields are those of all parts, so no part lacks a field
abbrev pub FieldsAreAll : Type 0
FieldsAreAll = (fields : FieldData) → fields_octets (data_fields fields) ≡ flat_map part_octets (parts_of fields)
