-- The parts of a parsed record, and what parsing and skipping one returns. RFC 1035 section 4.1.3.
use Rattle.std.specs.Prelude.{◌≡◌, ℕ, List, Result, Ok, Err}
use Rattle.dns_name.specs.Names.{fault_of}
use Rattle.dns_name.specs.Parsers.{seen, offset, MovesTo}
use Rattle.dns_octets.specs.declared.error.ParseError.{ParseError}
use Rattle.dns_name.specs.declared.parsed_name.ParsedName.{ParsedName}
use Rattle.dns_name.specs.declared.parser.Parser.{Parser}
use Rattle.dns_item.specs.Items.{SkipsRecord, RecordEntry, ReadsRecord, RecordFaultAt, RecordSkipFaultAt}
use Rattle.dns_item.specs.RecordHeader.{record_at}
use Rattle.dns_item.specs.declared.parsed_record.ParsedRecord.{ParsedRecord}
use Rattle.dns_item.specs.declared.record_header.RecordHeader.{RecordHeader}

-- the header
abbrev pub header_of : ParsedRecord → RecordHeader ParsedName
header_of r = r.header

-- the parser at the RDATA
abbrev pub data_parser : ParsedRecord → Parser
data_parser r = r.«data»

-- the octets that the record and its RDATA are read from
abbrev pub octets_of : ParsedRecord → List ℕ
octets_of r = seen (data_parser r)

-- what is read of the record
abbrev pub parsed_entry : ParsedRecord → RecordEntry
parsed_entry r = record_at (header_of r) (offset (data_parser r))

-- a record in octets: the octets that it is read from, and what is read of it
pub record EncodedRecord : Type 0 where
  pub octets : List ℕ
  pub entry : RecordEntry

-- a parsed record in its octets
abbrev pub encoded_record : ParsedRecord → EncodedRecord
encoded_record r = record { octets = octets_of r; entry = parsed_entry r }

-- What parsing returns: the record at the parser's offset, with the parser moved past it, and a parser for the RDATA that sees the same octets; or the fault there, and the parser doesn't move.
abbrev pub ParsesRecord : Parser → Parser → Result ParsedRecord ParseError → Type 0
ParsesRecord old new (Ok r) =
    ReadsRecord (seen old) (offset old) (offset new) (parsed_entry r) × MovesTo old new (offset new) × MovesTo old (data_parser r) (offset (data_parser r))
ParsesRecord old new (Err e) = RecordFaultAt (seen old) (offset old) (fault_of e) × (new ≡ old)

-- Skipping moves the parser past the record. If it can't be skipped, it returns the fault, and the parser doesn't move.
abbrev pub SkipsOverRecord : Parser → Parser → Result Unit ParseError → Type 0
SkipsOverRecord old new (Ok _) = SkipsRecord (seen old) (offset old) (offset new) × MovesTo old new (offset new)
SkipsOverRecord old new (Err e) = RecordSkipFaultAt (seen old) (offset old) (fault_of e) × (new ≡ old)
