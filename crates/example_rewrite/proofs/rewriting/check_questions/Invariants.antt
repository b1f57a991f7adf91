use Rattle.std.proofs.Common.{◌≡◌}
use Rattle.dns_message.specs.Sections.QuestionSection.{questions_left}
use Rattle.example_rewrite.specs.Rewriting.{first_fault}
use Rattle.example_rewrite.proofs.rewriting.check_questions.Given as goal

abbrev pub invariant-loop-question : goal.invariant-loop-question
invariant-loop-question l = first_fault (questions_left l.question-iterator) ≡ first_fault (questions_left l.fn.questions)
