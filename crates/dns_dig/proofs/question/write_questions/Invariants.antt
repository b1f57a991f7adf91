use Rattle.std.proofs.Common.{length}
use Rattle.dns_read.specs.QuestionSection.{questions_left}
use Rattle.dns_dig.proofs.LineTexts.{LinesPrinted, one_line}
use Rattle.dns_dig.specs.Sections.{question_item_line}
use Rattle.dns_dig.proofs.question.write_questions.Given as goal

abbrev pub invariant-loop-question : goal.invariant-loop-question
invariant-loop-question g l = LinesPrinted g.T.TextWriter.takes l.heading (one_line question_item_line) l.fn.writer l.writer l.begun (questions_left l.questions) (questions_left l.fn.questions)

abbrev pub decreases-loop-question : goal.decreases-loop-question
decreases-loop-question g l = length (questions_left l.questions)
