-- The text of a record's RDATA. RFC 1035 section 5.1, RFC 3597 section 5.
use Rattle.std.specs.Prelude.{ℕ, List, drop, Option, Some, None}
use Rattle.dns_wire.specs.Parts.{Part}
use Rattle.dns_data.specs.Printing.{opaque_text}
use Rattle.dns_item.specs.ParsedRecord.{EncodedRecord}
use Rattle.dns_item.specs.RecordReading.{up_to_rdata_end}
use Rattle.fields_table.specs.FieldParts.{named_parts}
use Rattle.fields_table.specs.Table.{definitions_of}
use Rattle.fields_records.specs.DataTexts.{data_text}

-- RDATA: the fields of its record type if it has these parts, else its octets
abbrev pub rdata_text : EncodedRecord → Option (List Part) → List ℕ
rdata_text x (Some parts) = data_text (named_parts (definitions_of x.entry.rtype) parts)
rdata_text x None = opaque_text (drop x.entry.rdata_start (up_to_rdata_end x.octets x.entry))
