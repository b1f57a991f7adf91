-- Cursors from which the same section follows. RFC 1035 section 4.1.
use Rattle.std.specs.Prelude.{◌≡◌, Result}
use Rattle.dns_octets.specs.declared.error.ParseError.{ParseError}
use Rattle.dns_read.specs.RecordSection.{section_of, MovesToAnswers, MovesToNext}
use Rattle.dns_read.specs.declared.question_section.QuestionSection.{QuestionSection}
use Rattle.dns_read.specs.declared.record_section.RecordSection.{RecordSection}

-- moving on from `new` to the answer section gives what it gives from `old`
abbrev pub SameAnswersFollow : QuestionSection → QuestionSection → Type 0
SameAnswersFollow old new = (outcome : Result RecordSection ParseError) → MovesToAnswers new outcome → MovesToAnswers old outcome

-- both are in the same section, and moving on from `new` to the next section gives what it gives from `old`
pub record SameNextFollows (old new : RecordSection) : Type 0 where
  pub section : section_of new ≡ section_of old
  pub next : (outcome : Result RecordSection ParseError) → MovesToNext new outcome → MovesToNext old outcome
