use Rattle.std.proofs.Common.{length, map}
use Rattle.dns_read.specs.QuestionSection.{questions_left}
use Rattle.json_print.proofs.theory.Pieces.{ItemsPrinted}
use Rattle.dns_json.specs.Entries.{readable}
use Rattle.dns_json.specs.Messages.{question_json}
use Rattle.dns_json.proofs.question.write_each.Given as goal

abbrev pub invariant-loop-question : goal.invariant-loop-question
invariant-loop-question g l =
    ItemsPrinted g.T.TextWriter.takes l.fn.writer l.writer l.later (map question_json (readable (questions_left l.questions))) (map question_json (readable (questions_left l.fn.questions)))

abbrev pub decreases-loop-question : goal.decreases-loop-question
decreases-loop-question g l = length (questions_left l.questions)
