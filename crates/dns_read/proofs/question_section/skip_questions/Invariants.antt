use Rattle.dns_name.specs.Parsers.{seen, offset, MovesTo}
use Rattle.dns_item.specs.Questions.{SkipsQuestion}
use Rattle.dns_read.specs.Reading.{Skipped}
use Rattle.dns_read.proofs.question_section.skip_questions.Given as goal

abbrev pub invariant-loop-question : goal.invariant-loop-question
invariant-loop-question l =
    Skipped (SkipsQuestion (seen l.fn.parser)) l._question (offset l.fn.parser) (offset l.parser) × MovesTo l.fn.parser l.parser (offset l.parser)
