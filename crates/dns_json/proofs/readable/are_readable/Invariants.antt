use Rattle.std.proofs.Common.{◌≡◌, length}
use Rattle.std.specs.List.{list_all}
use Rattle.std.specs.Prelude.{is_ok}
use Rattle.dns_read.specs.QuestionSection.{questions_left}
use Rattle.dns_json.proofs.readable.are_readable.Given as goal

abbrev pub invariant-loop-question : goal.invariant-loop-question
invariant-loop-question l = list_all is_ok (questions_left l.fn.questions) ≡ list_all is_ok (questions_left l.questions)

abbrev pub decreases-loop-question : goal.decreases-loop-question
decreases-loop-question l = length (questions_left l.questions)
