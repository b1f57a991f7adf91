use Rattle.std.proofs.Common.{length}
use Rattle.dns_read.specs.QuestionSection.{questions_left}
use Rattle.dns_lines.specs.Show.{question_line}
use Rattle.dns_lines.proofs.theory.PrintedLines.{Printed}
use Rattle.dns_lines.proofs.WalkLemmas.{QuestionsRead}
use Rattle.dns_lines.proofs.print.print_questions.Given as goal

abbrev pub invariant-loop-question : goal.invariant-loop-question
invariant-loop-question g l = record {
  printed : Printed question_line (g.W.Write.contents l.fn.writer) (g.W.Write.contents l.writer) (questions_left l.questions) (questions_left l.fn.questions);
  read : QuestionsRead l.fn.questions l.readable l.questions;
}

abbrev pub decreases-loop-question : goal.decreases-loop-question
decreases-loop-question g l = length (questions_left l.questions)
