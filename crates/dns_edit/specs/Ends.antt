-- Where the records of a message end. RFC 1035 section 4.1.
use Rattle.std.specs.Prelude.{ℕ, List}
use Rattle.dns_item.specs.Items.{SkipsRecord}
use Rattle.dns_read.specs.Reading.{Skipped}
use Rattle.dns_read.specs.Sections.{AnswersStart}
use Rattle.dns_edit.specs.Ttls.{record_total}

-- All questions and records can be skipped, and the last ends at offset q.
abbrev pub RecordsEndAt : List ℕ → ℕ → Type 0
RecordsEndAt b q = (start : ℕ) × AnswersStart b start × Skipped (SkipsRecord b) (record_total b) start q
