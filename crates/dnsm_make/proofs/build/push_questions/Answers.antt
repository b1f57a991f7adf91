use Rattle.std.proofs.Common.{◌+◌, drop, refl, subst, sym}
use Rattle.std.proofs.lemmas.Result.{err_from_is_err_and}
use Rattle.dns_build.specs.BuilderStates.{Built}
use Rattle.dnsm_make.proofs.theory.BuildLemmas.{Asking, all_questions, asking_begins, asking_ends, asking_named, asking_skips, asking_refused, asking_takes}
use Rattle.dnsm_make.proofs.theory.BuildLemmas.{next_item, no_items, no_questions, one_question}
use Rattle.dnsm_make.proofs.build.push_questions.Goals as goal
use Rattle.dnsm_make.proofs.build.push_questions.Goals.{then-item-eq-QUESTION+in_ok-read+in_ok-push, else-item-eq-QUESTION}

pub returns-in_err-read-clause-stopped : goal.returns-in_err-read-clause-stopped
returns-in_err-read-clause-stopped g c =
    let p = err_from_is_err_and c.from_residual.result c.from_residual.ensures.1 in
    let next = next_item c.args.items.now c.loop-item.item-index _ c.loop-item-test.true in
    rw p.1 (λ xs mean s represents. absurd (asking_named _ _ _ _ next xs s _ (c.loop-item.invariant.1 xs mean s represents) c.in_err-read.ensures.none.1))

pub returns-in_err-push-clause-stopped : goal.returns-in_err-push-clause-stopped
returns-in_err-push-clause-stopped g c =
    let p = err_from_is_err_and c.from_residual-in_err-push.result c.from_residual-in_err-push.ensures.1 in
    let next = next_item c.args.items.now c.loop-item.item-index _ c.loop-item-test.true in
    let h = c.in_err-push.ensures in
    let e = c.in_err-push.field-0.0 in
    rw (p.1, p.2)
    (λ xs mean s represents.
    asking_refused _ _ _ _ next xs s _ (c.loop-item.invariant.1 xs mean s represents) _ _ _ e c.if-item-eq-QUESTION.true c.question_of.ensures
    h.outcome.each)

pub question_of-requires : goal.question_of-requires
question_of-requires g c = rw c.name.ensures c.in_ok-read.ensures.name

pub loop-item-init : goal.loop-item-init
loop-item-init g c = (no_questions c.args.items.now, λ xs mean s represents. asking_begins _ _ _ xs s _ refl mean represents)

pub loop-item-preserved : goal.loop-item-preserved
loop-item-preserved g c = (
  elim c.if-item-eq-QUESTION.branch [
    | then-item-eq-QUESTION+in_ok-read+in_ok-push w ↦
        one_question c.args.items.now _ _ c.loop-item-test.true c.loop-item.invariant.0 (λ first. (_, w.question_of.ensures))
    | else-item-eq-QUESTION w ↦
        one_question c.args.items.now _ _ c.loop-item-test.true c.loop-item.invariant.0 (λ first. absurd (w.if-item-eq-QUESTION.false first))
  ],
  λ xs mean s represents.
      let h = c.loop-item.invariant.1 xs mean s represents in
      let next = next_item c.args.items.now c.loop-item.item-index _ c.loop-item-test.true in
      let left = drop (c.loop-item.item-index + 1) c.args.items.now in
      elim c.if-item-eq-QUESTION.branch [
        | then-item-eq-QUESTION+in_ok-read+in_ok-push w ↦
            subst (λ (b : Built). Asking g.T.Composer.rule left xs s b) (sym w.builder-is)
            (asking_takes _ _ _ _ next xs s _ h _ _ w.if-item-eq-QUESTION.true w.question_of.ensures w.in_ok-push.ensures.accepted)
        | else-item-eq-QUESTION w ↦
            subst (λ (b : Built). Asking g.T.Composer.rule left xs s b) (sym w.builder-is)
            (asking_skips _ _ _ _ next xs s _ h w.if-item-eq-QUESTION.false)
      ],
)

pub returns-clause-questions : goal.returns-clause-questions
returns-clause-questions g c = all_questions c.args.items.now _ c.loop-item-test.false c.loop-item.invariant.0

pub returns-clause-pushed : goal.returns-clause-pushed
returns-clause-pushed g c = λ xs mean s represents. asking_ends _ _ xs s _ (no_items c.args.items.now c.loop-item.item-index c.loop-item-test.false) (c.loop-item.invariant.1 xs mean s represents)
