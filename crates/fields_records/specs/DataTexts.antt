-- Record data in presentation format. RFC 1035 section 5.1; data without a presentation format: RFC 3597 section 5.
use Rattle.std.specs.Prelude.{List, [], ℕ, unwrap_or}
use Rattle.dns_data.specs.Printing.{opaque_text}
use Rattle.fields_table.specs.Data.{parts_of, rtype_of}
use Rattle.fields_table.specs.FieldParts.{NamedPart, named_parts}
use Rattle.fields_table.specs.Table.{definitions_of}
use Rattle.fields_table.specs.declared.field_data.FieldData.{FieldData}
use Rattle.fields_records.specs.FieldTexts.{fields_octets, fields_text}

-- the fields of record data
abbrev pub data_fields : FieldData → List NamedPart
data_fields fields = named_parts (definitions_of (rtype_of fields)) (parts_of fields)

-- fields: their words, else their octets as those of an unknown type
abbrev pub data_text : List NamedPart → List ℕ
data_text fields = unwrap_or (fields_text [] fields) (opaque_text (fields_octets fields))

-- record data: the text of its fields
abbrev pub data_line : FieldData → List ℕ
data_line fields = data_text (data_fields fields)
