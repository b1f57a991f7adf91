-- The reading of records as a function. RFC 1035 section 4.1.
use Rattle.std.specs.Prelude.{ℕ, List, map, Result, Ok, Err}
use Rattle.dns_name.specs.Names.{Fault}
use Rattle.dns_item.specs.Items.{RecordEntry, ReadsRecord, RecordFaultAt}
use Rattle.dns_item.specs.ParsedRecord.{EncodedRecord}
use Rattle.dns_read.specs.Readings.{AreReadings}
use Rattle.dns_read.specs.Unique.{one_reading_of_records}

-- the reading of at most n records from offset p
unfoldable pub records_from : List ℕ → ℕ → ℕ → List (Result RecordEntry Fault)
records_from b n p = ((one_reading_of_records b).some n p).0

-- an item of a reading of `b`: a record with the octets `b`, or a fault
abbrev pub in_octets : List ℕ → Result RecordEntry Fault → Result EncodedRecord Fault
in_octets b (Ok x) = Ok (record { octets = b; entry = x })
in_octets b (Err f) = Err f

-- the reading of at most n records from offset p, each record with the octets that it is read from
unfoldable pub records_in : List ℕ → ℕ → ℕ → List (Result EncodedRecord Fault)
records_in b n p = map (in_octets b) (records_from b n p)

-- `records_from` is the one reading of records
abbrev pub RecordsFromAreRead : Type 0
RecordsFromAreRead = (b : List ℕ) → AreReadings (ReadsRecord b) (RecordFaultAt b) (records_from b)
