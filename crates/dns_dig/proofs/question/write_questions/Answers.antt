use Rattle.std.proofs.Common.{ℕ, List, append-nil, refl, rules, subst, sym}
use Rattle.std.specs.Fmt.{WritesInCalls}
use Rattle.dns_read.specs.QuestionSection.{question_result, questions_left}
use Rattle.dns_dig.specs.Lines.{line_text}
use Rattle.dns_dig.specs.Sections.{question_item_line}
use Rattle.dns_dig.proofs.LineTexts.{no_lines_printed, next_lines_printed, all_lines_printed, lines_mapped}
use Rattle.dns_dig.proofs.question.write_questions.Goals as goal

pub loop-question-init : goal.loop-question-init
loop-question-init g c = no_lines_printed _ _ _ _ _ _ refl

pub loop-question-preserved : goal.loop-question-preserved
loop-question-preserved g c =
    let line = line_text c.question_heading-heading.result.now c.loop-question.begun (question_item_line (question_result c.in-Some.question)) in
    let wrote =
    subst (λ (t : List ℕ). WritesInCalls g.T.TextWriter.takes c.loop-question.writer t c.write_item.new.writer) (sym (append-nil line)) (c.write_item.ensures.text (search rules)) in
    next_lines_printed _ _ _ _ _ _ _ _ _ _ _ _ c.loop-question.invariant c.in-Some.ensures.steps wrote refl

pub returns-clause-text : goal.returns-clause-text
returns-clause-text g c = λ ok.
    let all = all_lines_printed _ _ _ _ _ _ _ _ _ c.loop-question.invariant c.in_default.ensures.steps.0 (c.write_end.ensures.text ok) in
    rw (c.question_heading-heading.ensures, lines_mapped question_item_line (questions_left c.args.questions)) at all
