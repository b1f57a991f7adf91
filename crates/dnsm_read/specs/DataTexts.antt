-- The text of a record's RDATA. RFC 1035 section 5.1, RFC 3597 section 5.
use Rattle.std.specs.Prelude.{ℕ, List, drop, Option}
use Rattle.std.specs.Result.{result_ok}
use Rattle.dns_name.specs.Names.{Fault}
use Rattle.dns_item.specs.Items.{RecordEntry, ReadsRecord, RecordFaultAt}
use Rattle.dns_item.specs.ParsedRecord.{EncodedRecord}
use Rattle.dns_item.specs.RecordReading.{up_to_rdata_end}
use Rattle.dns_item.specs.TypedRecords.{data_in}
use Rattle.dns_wire.specs.Parts.{Part}
use Rattle.fields_table.specs.FieldData.{type_layout}
use Rattle.fields_records.specs.RdataTexts.{rdata_text}
use Rattle.dnsm_status.specs.Codes.{ReportsFault}

-- the record x can be read at p
abbrev pub RecordAt : List ℕ → ℕ → RecordEntry → Type 0
RecordAt b p x = (q : ℕ) × ReadsRecord b p q x

-- no record can be read at p, and the number says why
abbrev pub NoRecordAt : List ℕ → ℕ → ℕ → Type 0
NoRecordAt b p n = (f : Fault) × RecordFaultAt b p f × ReportsFault f n

-- the octets of a record's RDATA
abbrev pub data_octets : List ℕ → RecordEntry → List ℕ
data_octets b x = drop x.rdata_start (up_to_rdata_end b x)

-- the parts of a record's RDATA as the fields of its type; none if it is malformed
abbrev pub field_parts : EncodedRecord → Option (List Part)
field_parts r = result_ok (data_in r (type_layout r.entry.rtype))

-- the text of RDATA: its fields, or its octets if it is malformed
abbrev pub data_text : List ℕ → RecordEntry → List ℕ
data_text b x = let r : EncodedRecord = record { octets = b; entry = x } in rdata_text r (field_parts r)
