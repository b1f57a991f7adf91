-- `records_from` gives the readings of records.
use Rattle.std.proofs.Common.{ℕ, List}
use Rattle.dns_read.specs.Sections.{ReadingRecords}
use Rattle.dns_read.specs.RecordsFrom.{records_from, RecordsFromAreRead}
use Rattle.dns_read.specs.Unique.{one_reading_of_records}
use Rattle.dns_read.proofs.theory.ReadingLemmas.{are_readings}

records_from-reading : (b : List ℕ) (n p : ℕ) → ReadingRecords b n p (records_from b n p)
unfolding records_from
records_from-reading b n p = ((one_reading_of_records b).some n p).1

-- The records from an offset are a reading of them.
pub records_from_are_read : RecordsFromAreRead
records_from_are_read b = are_readings (one_reading_of_records b) (records_from b) (records_from-reading b)
