use Rattle.std.proofs.Common.{◌∙◌, ◌∷◌, ap}
use Rattle.std.proofs.lemmas.Result.{err_from_is_err_and}
use Rattle.dns_read.specs.RecordSection.{record_result, records_left}
use Rattle.dns_build.proofs.CopyLemmas.{so_far_more, so_far_all, so_far_fault, so_far_refused}
use Rattle.dns_build.proofs.copying.copy_section.Goals as goal

pub loop-item-preserved : goal.loop-item-preserved
loop-item-preserved g c =
    let next = c.in-Some.ensures.steps ∙ ap (λ outcome. record_result outcome ∷ records_left c.next.new.self) c.in-Ok.is in
    record {
      callable = c.copy_record.ensures.callable;
      copied = λ s represents. so_far_more _ _ _ _ _ _ _ _ s _ _ _ _ _ _ _ (c.loop-item.invariant.copied s represents) next c.in_ok-copy_record-in-Ok.ensures.copies;
    }

pub returns-in_err-copy_record-in-Ok-clause-copies : goal.returns-in_err-copy_record-in-Ok-clause-copies
returns-in_err-copy_record-in-Ok-clause-copies g c = λ s represents.
    let next = c.in-Some.ensures.steps ∙ ap (λ outcome. record_result outcome ∷ records_left c.next.new.self) c.in-Ok.is in
    let p = err_from_is_err_and c.from_residual.result c.from_residual.ensures.1 in
    rw (p.1, p.2) (so_far_refused _ _ _ _ _ _ _ _ s _ _ _ _ _ c.in_err-copy_record-in-Ok.field-0.0 _ _ (c.loop-item.invariant.copied s represents) next c.in_err-copy_record-in-Ok.ensures.copies)

pub returns-in-Err-clause-copies : goal.returns-in-Err-clause-copies
returns-in-Err-clause-copies g c = λ s represents.
    let next = c.in-Some.ensures.steps ∙ ap (λ outcome. record_result outcome ∷ records_left c.next.new.self) c.in-Err.is in
    so_far_fault _ _ _ _ _ _ _ _ s _ _ _ _ _ (c.loop-item.invariant.copied s represents) next

pub returns-clause-copies : goal.returns-clause-copies
returns-clause-copies g c = λ s represents. so_far_all _ _ _ _ _ _ _ _ s _ _ _ (c.loop-item.invariant.copied s represents) c.in_default.ensures.steps.0
