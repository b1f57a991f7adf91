use Rattle.std.proofs.Common.{arith, refl}
use Rattle.std.proofs.lemmas.Result.{err_from_is_err_and}
use Rattle.dns_item.specs.Questions.{SkipsQuestion, QuestionSkipFaultAt}
use Rattle.dns_read.specs.Reading.Skipped.{none}
use Rattle.dns_read.proofs.SkipLemmas.{skips_more, skips_stop}
use Rattle.dns_read.proofs.question_section.skip_questions.Goals as goal

pub loop-question-init : goal.loop-question-init
loop-question-init c = (none, record { input = refl; seen = refl; offset = refl })

pub loop-question-preserved : goal.loop-question-preserved
loop-question-preserved c =
    let l = c.loop-question in
    skips_more SkipsQuestion QuestionSkipFaultAt c.args.parser.now l.parser l._question l.invariant c.skip.new.parser c.in_ok-skip.ensures

pub returns-in_err-skip : goal.returns-in_err-skip
returns-in_err-skip c =
    let p = err_from_is_err_and c.from_residual.result c.from_residual.ensures.1 in
    let l = c.loop-question in
    rw (p.1, p.2) (skips_stop SkipsQuestion QuestionSkipFaultAt c.args.parser.now l.parser l._question l.invariant c.args.count _ c.in_err-skip.ensures.0 (omega arith))
