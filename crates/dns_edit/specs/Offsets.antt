-- The offsets of the questions and records of a message, and of the names in their RDATA. RFC 1035 section 4.1.
use Rattle.std.specs.Prelude.{◌≢◌, ℕ, ◌+◌, ◌<◌, List}
use Rattle.std.specs.Int.{w16}
use Rattle.dns_name.specs.Names.{NameEndsAt}
use Rattle.dns_name.specs.Parsers.{number_at}
use Rattle.dns_code.specs.HeaderSection.{header_size}
use Rattle.dns_item.specs.Items.{SkipsRecord}
use Rattle.dns_item.specs.Questions.{SkipsQuestion}
use Rattle.dns_read.specs.Reading.{Skipped}
use Rattle.dns_read.specs.Sections.{question_count, AnswersStart}
use Rattle.dns_edit.specs.Rdata.{names_start, name_count}
use Rattle.dns_edit.specs.Ttls.{record_total}

-- A question of the message begins at offset p, after k questions that can be skipped.
abbrev pub QuestionAt : List ℕ → ℕ → Type 0
QuestionAt b p = (k : ℕ) × (k < question_count b) × Skipped (SkipsQuestion b) k header_size p

-- A record of the message, of any section, begins at offset p, after k records that can be skipped.
abbrev pub RecordAt : List ℕ → ℕ → Type 0
RecordAt b p = (start k : ℕ) × AnswersStart b start × (k < record_total b) × Skipped (SkipsRecord b) k start p

-- A name in the RDATA of a record of the message begins at offset p, after others that can be skipped. The RDATA ends at `end`, and its type has names at known offsets.
pub record RdataNameAt (b : List ℕ) (p end : ℕ) : Type 0 where
  pub start : ℕ
  pub entry : RecordAt b start
  pub skips : SkipsRecord b start end
  pub some : skips.name_end + 10 ≢ end
  pub before : ℕ
  pub less : before < name_count (number_at w16 b skips.name_end)
  pub others : Skipped (NameEndsAt b) before (names_start b (number_at w16 b skips.name_end) (skips.name_end + 10)) p
