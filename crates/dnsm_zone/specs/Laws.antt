-- RDATA that is printed reads back.
use Rattle.std.specs.Prelude.{◌≡◌, ℕ, List}
use Rattle.std.specs.Str.{IsUtf8}
use Rattle.fields_table.specs.Data.{parts_of, rtype_of}
use Rattle.fields_table.specs.DataOrders.{octets_of_parts}
use Rattle.fields_table.specs.declared.field_data.FieldData.{FieldData}
use Rattle.fields_records.specs.DataTexts.{data_line}
use Rattle.fields_records.specs.Laws.{HasOctets}
use Rattle.dnsm_zone.specs.Lines.{AreData, HasWords, LacksData}

-- the octets that the text of RDATA represents are those of the RDATA, uncompressed
abbrev pub DataTextsAreRead : Type 0
DataTextsAreRead =
    (fields : FieldData) (octets : List ℕ) → HasOctets fields → HasWords (AreData (rtype_of fields) octets) (data_line fields) → octets ≡ octets_of_parts (parts_of fields)

-- the text of RDATA isn't one of no RDATA
abbrev pub DataTextsAreAccepted : Type 0
DataTextsAreAccepted = (fields : FieldData) → HasOctets fields → IsUtf8 (data_line fields) → LacksData (rtype_of fields) (data_line fields) → ⊥
