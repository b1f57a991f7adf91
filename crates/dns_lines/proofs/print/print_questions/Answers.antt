use Rattle.dns_lines.proofs.theory.PrintedLines.{none_printed, more_printed, all_printed}
use Rattle.dns_lines.proofs.WalkLemmas.{no_question_read, question_read}
use Rattle.dns_lines.specs.Show.{question_line}
use Rattle.dns_lines.proofs.print.print_questions.Goals as goal
use Rattle.dns_lines.proofs.print.print_questions.Goals.{then-is_ok, else-is_ok}

pub loop-question-init : goal.loop-question-init
loop-question-init g c = record { printed = none_printed question_line _ _; read = no_question_read _ }

pub loop-question-preserved : goal.loop-question-preserved
loop-question-preserved g c = record {
  printed = more_printed question_line _ _ _ _ _ _ _ c.loop-question.invariant.printed c.in-Some.ensures.steps c.in_ok-print_question.ensures;
  read = question_read _ _ _ _ _ c.in-Some.question
      (λ is. elim c.if-is_ok.branch [ then-is_ok w ↦ w.readable-is | else-is_ok w ↦ absurd (cc (c.is_ok.ensures.value, is, w.if-is_ok.false)) ])
      (λ is. elim c.if-is_ok.branch [ then-is_ok w ↦ absurd (cc (c.is_ok.ensures.value, is, w.if-is_ok.true)) | else-is_ok w ↦ w.readable-is ])
      c.in-Some.ensures.moves c.in-Some.ensures.counts c.in-Some.ensures.octets c.loop-question.invariant.read;
}

pub returns-clause-printed : goal.returns-clause-printed
returns-clause-printed g c = all_printed question_line _ _ _ _ c.loop-question.invariant.printed c.in_default.ensures.steps.0
