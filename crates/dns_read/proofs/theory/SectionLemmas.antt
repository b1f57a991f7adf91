-- A cursor that moves on from the start of a section is at the start of the next.
use Rattle.std.proofs.Common.{◌≡◌, ℕ, List, subst}
use Rattle.std.specs.Prelude.{Some, Result, Ok}
use Rattle.dns_octets.specs.declared.error.ParseError.{ParseError}
use Rattle.dns_code.specs.HeaderSection.{header_size}
use Rattle.dns_item.specs.Questions.{SkipsQuestion}
use Rattle.dns_item.specs.Items.{SkipsRecord}
use Rattle.dns_read.specs.Reading.{Skipped}
use Rattle.dns_read.specs.QuestionSection as questions
use Rattle.dns_read.specs.QuestionSection.{BeginsQuestions}
use Rattle.dns_read.specs.RecordSection.{octets_of, position, section_of, IsFresh, BeginsSection, EntersAnswers, EntersNext}
use Rattle.dns_read.specs.Sections.{question_count, record_count, StartsAt, section_after}
use Rattle.dns_read.specs.Skipping.{SkipsRest}
use Rattle.dns_read.specs.declared.question_section.QuestionSection.{QuestionSection}
use Rattle.dns_read.specs.declared.record_section.RecordSection.{RecordSection}
use Rattle.dns_read.specs.declared.section.Section.{Section}
use Rattle.dns_read.specs.declared.section.Section.TheVariants.{Answer, Authority, Additional}

-- the answer section follows all questions
pub begins_answers : (b : List ℕ) (old : QuestionSection) (new : RecordSection) → BeginsQuestions b old → EntersAnswers old new → BeginsSection Answer b new
begins_answers b old new begins enters =
    let counted = subst (λ (left : Result ℕ ParseError). SkipsRest (SkipsQuestion (questions.octets_of old)) left (questions.position old) (position new)) begins.count enters.skips in
    let same_offset = subst (λ p. Skipped (SkipsQuestion (questions.octets_of old)) (question_count b) p (position new)) begins.start counted in
    record {
      fresh = subst (λ (o : List ℕ). IsFresh Answer o new) begins.octets enters.fresh;
      start = subst (λ (o : List ℕ). Skipped (SkipsQuestion o) (question_count b) header_size (position new)) begins.octets same_offset;
    }

-- a section starts after the records of the section before it
pub starts_after : (which next : Section) (b : List ℕ) (p q : ℕ) → section_after which ≡ Some next → StartsAt which b p → Skipped (SkipsRecord b) (record_count which b) p q → StartsAt next b q
starts_after Answer next b p q after start skipped = let e : Authority ≡ next = cc in subst (λ k. StartsAt k b q) e (p, start, skipped)
starts_after Authority next b p q after start skipped = let e : Additional ≡ next = cc in subst (λ k. StartsAt k b q) e (p, start, skipped)
starts_after Additional next b p q after start skipped = absurd (cc)

-- A cursor that enters the next section begins it.
pub begins_next : (which next : Section) (b : List ℕ) (old new : RecordSection) → section_after which ≡ Some next → BeginsSection which b old → EntersNext old new → BeginsSection next b new
begins_next which next b old new after begins enters =
    let section : section_of new ≡ next = cc in
    let fresh = subst (λ k. IsFresh k b new) section (subst (λ (o : List ℕ). IsFresh (section_of new) o new) begins.fresh.octets enters.fresh) in
    let counted = subst (λ (left : Result ℕ ParseError). SkipsRest (SkipsRecord (octets_of old)) left (position old) (position new)) begins.fresh.count enters.skips in
    let skipped = subst (λ (o : List ℕ). SkipsRest (SkipsRecord o) (Ok (record_count which b)) (position old) (position new)) begins.fresh.octets counted in
    record { fresh = fresh; start = starts_after which next b (position old) (position new) after begins.start skipped }
