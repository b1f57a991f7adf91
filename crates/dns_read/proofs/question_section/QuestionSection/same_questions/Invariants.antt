use Rattle.std.proofs.Common.{◌≡◌, length}
use Rattle.dns_read.specs.QuestionSection.{questions_left}
use Rattle.dns_read.specs.SameQuestions.{same_readings}
use Rattle.dns_read.proofs.question_section.QuestionSection.same_questions.Given as goal

abbrev pub invariant-loop-question : goal.invariant-loop-question
invariant-loop-question l = same_readings (questions_left l.questions) (questions_left l.others) ≡ same_readings (questions_left l.fn.self) (questions_left l.fn.other)

abbrev pub decreases-loop-question : goal.decreases-loop-question
decreases-loop-question l = length (questions_left l.questions)
