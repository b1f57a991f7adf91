use Rattle.std.proofs.Common.{ap}
use Rattle.std.specs.List.{filter_map}
use Rattle.std.specs.Result.{result_ok}
use Rattle.dns_build.proofs.AnswerLemmas.{begins, takes-next, refuses-next, ends, readable-next, readable-fault}
use Rattle.dns_build.proofs.answer.push_questions.Goals as goal

pub loop-question-init : goal.loop-question-init
loop-question-init g c = record { pushing = λ s represents. begins _ _ _ s _ _ _ (ap (filter_map result_ok) c.question-asked.ensures.questions) represents }

pub loop-question-preserved : goal.loop-question-preserved
loop-question-preserved g c = record {
  pushing = λ s represents.
      let steps = rw c.in-Ok.is at c.in-Some.ensures.steps in
      let pushed = c.in_default-push.ensures in
      takes-next _ _ _ s _ _ _ _ (readable-next _ _ _ steps) _ _ pushed.outcome.each pushed.accepted (c.loop-question.invariant.pushing s represents);
}

pub returns-in-Err : goal.returns-in-Err
returns-in-Err g c s represents =
    let steps = rw c.in-Ok.is at c.in-Some.ensures.steps in
    let h = c.in-Err.ensures in
    refuses-next _ _ _ s _ _ _ _ (readable-next _ _ _ steps) _ _ c.in-Err.error h.outcome.each h.refused (c.loop-question.invariant.pushing s represents)

pub returns-in_default-question : goal.returns-in_default-question
returns-in_default-question g c s represents =
    let steps = rw c.in_default-question.is at c.in-Some.ensures.steps in
    let counts = rw c.in_default-question.is at c.in-Some.ensures.counts in
    ends _ _ _ s _ _ _ (readable-fault _ c.next.new.self _ c.in_default-question.field-0 steps counts) (c.loop-question.invariant.pushing s represents)

pub returns : goal.returns
returns g c s represents = ends _ _ _ s _ _ _ (ap (filter_map result_ok) c.in_default.ensures.steps.0) (c.loop-question.invariant.pushing s represents)
