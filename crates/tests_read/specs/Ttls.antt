-- What stays as it is in a message whose TTLs are lowered.
use Rattle.std.specs.Prelude.{ℕ, ◌+◌, ◌<◌, List}
use Rattle.dns_code.specs.HeaderSection.{header_size}
use Rattle.dns_item.specs.Items.{SkipsRecord}
use Rattle.dns_read.specs.Reading.{Skipped}
use Rattle.dns_read.specs.Sections.{question_count, AnswersStart}
use Rattle.dns_edit.specs.Following.{FollowsFew}
use Rattle.dns_edit.specs.Edits.{NamesAvoid}
use Rattle.dns_edit.specs.Readings.{DataReadsAlike, ReadsNameAlike}
use Rattle.dns_edit.specs.Ttls.{record_total}
use Rattle.dns_edit.specs.Uses.{NameApart}

-- Each name that uses no octet of a TTL reads the same in both messages.
abbrev pub KeepsNames : List ℕ → List ℕ → Type 0
KeepsNames b c = (fields : List ℕ) × NamesAvoid b fields × ((p : ℕ) → NameApart b fields p → ReadsNameAlike b c p)

-- The RDATA of each record reads the same in both messages.
abbrev pub KeepsData : List ℕ → List ℕ → Type 0
KeepsData b c = (fields : List ℕ) × (avoid : NamesAvoid b fields)
    × ((k p q : ℕ) → k < record_total b → Skipped (SkipsRecord b) k avoid.start p → (s : SkipsRecord b p q) → DataReadsAlike b c fields (s.name_end + 10) q)

-- Few pointers are followed to read the name of the first question, and the owner of the first record.
pub record IsCheap (b : List ℕ) : Type 0 where
  pub question : 0 < question_count b → FollowsFew b header_size
  pub owner : (start : ℕ) → AnswersStart b start → 0 < record_total b → FollowsFew b start
