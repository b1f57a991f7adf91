-- The result of reading a record by an RDATA type, as a function of the octets. RFC 1035 sections 3.3 and 4.1.3.
use Rattle.std.specs.Prelude.{◌≡◌, ℕ, List, Option, option_map, Result, Ok, Err}
use Rattle.dns_name.specs.Names.{Fault, fault_of}
use Rattle.dns_name.specs.ParsedName.{labels}
use Rattle.dns_name.specs.declared.parsed_name.ParsedName.{ParsedName}
use Rattle.dns_octets.specs.declared.error.ParseError.{ParseError}
use Rattle.dns_wire.specs.Parts.{Part}
use Rattle.dns_data.specs.Layout.{Layout}
use Rattle.dns_item.specs.ParsedData.{IsParsedData, one_parsed_data}
use Rattle.dns_item.specs.Items.{RecordItem, RecordEntry}
use Rattle.dns_item.specs.ParsedRecord.{EncodedRecord}
use Rattle.dns_item.specs.Record.{record_item}
use Rattle.dns_item.specs.RecordReading.{item_of}
use Rattle.dns_item.specs.declared.record.Record.{Record}

-- the one result of reading a record's RDATA by a layout: its parts, or the fault; `ShortInput` if the RDATA isn't all there
unfoldable pub data_in : EncodedRecord → Layout → Result (List Part) Fault
data_in x layout = (one_parsed_data x layout).some.0

-- `data_in` is the result of reading by the layout, and there is no other
pub record DataIsParsed : Type 0 where
  pub outcome : (x : EncodedRecord) (layout : Layout) → IsParsedData x layout (data_in x layout)
  pub only : (x : EncodedRecord) (layout : Layout) (r : Result (List Part) Fault) → IsParsedData x layout r → data_in x layout ≡ r

-- a record with the parts of its RDATA, or the fault of the RDATA
abbrev pub with_parts : RecordEntry → Result (List Part) Fault → Result RecordItem Fault
with_parts x (Ok parts) = Ok (item_of x parts)
with_parts x (Err f) = Err f

-- the result of reading a record by a layout: the record with the parts of its RDATA, or the fault of the RDATA
abbrev pub laid_out : EncodedRecord → Layout → Result RecordItem Fault
laid_out x layout = with_parts x.entry (data_in x layout)

-- the result of reading a record by an RDATA type, given its layouts: `None` if it doesn't accept the record type
abbrev pub parsed_as : (ℕ → Option Layout) → EncodedRecord → Option (Result RecordItem Fault)
parsed_as layouts x = option_map (laid_out x) (layouts x.entry.rtype)

-- a record that was read with its RDATA as a value, or the fault
abbrev pub typed_result : {D : Type 0} → (D → ℕ) → (D → List Part) → Result (Record ParsedName D) ParseError → Result RecordItem Fault
typed_result rtype_of parts_of (Ok r) = Ok (record_item labels rtype_of parts_of r)
typed_result rtype_of parts_of (Err e) = Err (fault_of e)
