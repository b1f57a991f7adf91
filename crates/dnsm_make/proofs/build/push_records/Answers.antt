use Rattle.std.proofs.Common.{◌∙◌, ◌+◌, drop, inl, refl, subst, sym}
use Rattle.std.proofs.lemmas.Result.{err_from_is_err_and}
use Rattle.dns_build.specs.BuilderStates.{Built}
use Rattle.dnsm_status.specs.Codes.{number_of}
use Rattle.dnsm_status.specs.declared.code.CallError.TheVariants.{BadText}
use Rattle.dnsm_make.proofs.theory.BuildLemmas.{Stating, at_depth, each_record, next_item, no_items, no_records, not_at_depth, one_record, stating_begins, stating_ends}
use Rattle.dnsm_make.proofs.theory.BuildLemmas.{stating_named, stating_skips, stating_refused, stating_takes}
use Rattle.dnsm_make.proofs.build.push_records.Goals as goal
use Rattle.dnsm_make.proofs.build.push_records.Goals.{then-from-DEPTH+in_ok-read+in-Ok+in_ok-push-in-Ok, else-from-DEPTH}

pub returns-in_err-read-clause-stopped : goal.returns-in_err-read-clause-stopped
returns-in_err-read-clause-stopped g c =
    let p = err_from_is_err_and c.from_residual.result c.from_residual.ensures.1 in
    let next = next_item c.args.items.now c.loop-item.item-index _ c.loop-item-test.true in
    rw p.1
    (λ xs mean s represents.
    absurd
    (stating_named _ _ _ _ _ _ next xs s _ (c.loop-item.invariant.1 xs mean s represents) (number_of BadText)
    (at_depth _ _ g.S.BuilderStage.DEPTH c.from.result _ g.met.S.RecordStage.at g.S.BuilderStage.depth (c.if-from-DEPTH.true ∙ c.DEPTH.ensures) c.from.ensures)
    (inl (c.in_err-read.ensures.none.1, refl))))

pub returns-in-Err-clause-stopped : goal.returns-in-Err-clause-stopped
returns-in-Err-clause-stopped g c =
    let next = next_item c.args.items.now c.loop-item.item-index _ c.loop-item-test.true in
    λ xs mean s represents.
    absurd
    (stating_named _ _ _ _ _ _ next xs s _ (c.loop-item.invariant.1 xs mean s represents) _
    (at_depth _ _ g.S.BuilderStage.DEPTH c.from.result _ g.met.S.RecordStage.at g.S.BuilderStage.depth (c.if-from-DEPTH.true ∙ c.DEPTH.ensures) c.from.ensures)
    c.in-Err.ensures.none)

pub returns-in_err-push-in-Ok-clause-stopped : goal.returns-in_err-push-in-Ok-clause-stopped
returns-in_err-push-in-Ok-clause-stopped g c =
    let p = err_from_is_err_and c.from_residual-in_err-push-in-Ok.result c.from_residual-in_err-push-in-Ok.ensures.1 in
    let next = next_item c.args.items.now c.loop-item.item-index _ c.loop-item-test.true in
    let h = c.in_err-push-in-Ok.ensures in
    let e = c.in_err-push-in-Ok.field-0.0 in
    rw (p.1, p.2)
    (λ xs mean s represents.
    stating_refused _ _ _ _ _ _ next xs s _ (c.loop-item.invariant.1 xs mean s represents) _ _ _ e
    (at_depth _ _ g.S.BuilderStage.DEPTH c.from.result _ g.met.S.RecordStage.at g.S.BuilderStage.depth (c.if-from-DEPTH.true ∙ c.DEPTH.ensures) c.from.ensures)
    c.in-Ok.ensures.made
    h.outcome.each)

pub record_of-requires : goal.record_of-requires
record_of-requires g c = rw c.name.ensures c.in_ok-read.ensures.name

pub loop-item-init : goal.loop-item-init
loop-item-init g c = (no_records c.args.items.now g.S.RecordStage.section, λ xs mean s represents. stating_begins _ _ _ _ _ xs s _ refl mean represents)

pub loop-item-preserved : goal.loop-item-preserved
loop-item-preserved g c = (
  elim c.if-from-DEPTH.branch [
    | then-from-DEPTH+in_ok-read+in-Ok+in_ok-push-in-Ok w ↦
        one_record c.args.items.now g.S.RecordStage.section _ _ c.loop-item-test.true c.loop-item.invariant.0 (λ at. (_, w.in-Ok.ensures.made))
    | else-from-DEPTH w ↦
        one_record c.args.items.now g.S.RecordStage.section _ _ c.loop-item-test.true c.loop-item.invariant.0
        (λ at. absurd (not_at_depth _ _ g.S.BuilderStage.DEPTH c.from.result _ g.met.S.RecordStage.at g.S.BuilderStage.depth (λ e. w.if-from-DEPTH.false (e ∙ sym c.DEPTH.ensures)) c.from.ensures at))
  ],
  λ xs mean s represents.
      let h = c.loop-item.invariant.1 xs mean s represents in
      let next = next_item c.args.items.now c.loop-item.item-index _ c.loop-item-test.true in
      let left = drop (c.loop-item.item-index + 1) c.args.items.now in
      elim c.if-from-DEPTH.branch [
        | then-from-DEPTH+in_ok-read+in-Ok+in_ok-push-in-Ok w ↦
            subst (λ (b : Built). Stating g.T.Composer.rule g.S.BuilderStage.stage g.S.RecordStage.section left xs s b) (sym w.builder-is)
            (stating_takes _ _ _ _ _ _ next xs s _ h _ _
            (at_depth _ _ g.S.BuilderStage.DEPTH c.from.result _ g.met.S.RecordStage.at g.S.BuilderStage.depth (w.if-from-DEPTH.true ∙ c.DEPTH.ensures)
            c.from.ensures) w.in-Ok.ensures.made w.in_ok-push-in-Ok.ensures.accepted)
        | else-from-DEPTH w ↦
            subst (λ (b : Built). Stating g.T.Composer.rule g.S.BuilderStage.stage g.S.RecordStage.section left xs s b) (sym w.builder-is)
            (stating_skips _ _ _ _ _ _ next xs s _ h
            (not_at_depth _ _ g.S.BuilderStage.DEPTH c.from.result _ g.met.S.RecordStage.at g.S.BuilderStage.depth (λ e. w.if-from-DEPTH.false (e ∙ sym c.DEPTH.ensures)) c.from.ensures))
      ],
)

pub returns-clause-records : goal.returns-clause-records
returns-clause-records g c = each_record c.args.items.now g.S.RecordStage.section _ c.loop-item-test.false c.loop-item.invariant.0

pub returns-clause-pushed : goal.returns-clause-pushed
returns-clause-pushed g c = λ xs mean s represents. stating_ends _ _ _ _ xs s _ (no_items c.args.items.now c.loop-item.item-index c.loop-item-test.false) (c.loop-item.invariant.1 xs mean s represents)
