-- What a cursor over a section of records has left, and where that ends, if the section has a start.
use Rattle.std.specs.Prelude.{ℕ, List, Option, Some, None, Result, Ok, Err}
use Rattle.dns_name.specs.Names.{Fault}
use Rattle.dns_octets.specs.declared.error.ParseError.{ParseError}
use Rattle.dns_item.specs.ParsedRecord.{EncodedRecord}
use Rattle.dns_read.specs.RecordSection.{position, records_left}
use Rattle.dns_read.specs.declared.record_section.RecordSection.{RecordSection}
use Rattle.dns_json.specs.Entries.{end_of}

-- what is left to yield; none if the section has no start
abbrev pub reading_left : Result RecordSection ParseError → Option (List (Result EncodedRecord Fault))
reading_left (Ok section) = Some (records_left section)
reading_left (Err e) = None

-- the offset after it
abbrev pub end_left : Result RecordSection ParseError → Option ℕ
end_left (Ok section) = Some (end_of (position section) (records_left section))
end_left (Err e) = None
