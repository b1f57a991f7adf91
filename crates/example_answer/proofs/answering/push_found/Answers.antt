use Rattle.std.proofs.Common.{◌∙◌, sym}
use Rattle.std.proofs.lemmas.Result.{err_from_is_err_and}
use Rattle.dns_message.specs.Questions.{parsed_question}
use Rattle.dns_message.specs.Records.{record_item}
use Rattle.example_answer.proofs.Pushing.{pushes_none, pushes_next, exceeds_next, refused_next}
use Rattle.example_answer.proofs.answering.push_found.Goals.{then-is_asked+in_ok-push_ref, else-is_asked}
use Rattle.example_answer.proofs.answering.push_found.Goals as goal

pub loop-found-init : goal.loop-found-init
loop-found-init g c =
    record { pushes = λ s h. pushes_none (record_item g.N.ToName.name g.D.RecordData.rtype_of g.D.RecordData.parts) (parsed_question c.args.question.now) c.args.table.now s _ h }

pub loop-found-preserved : goal.loop-found-preserved
loop-found-preserved g c =
    let item = record_item g.N.ToName.name g.D.RecordData.rtype_of g.D.RecordData.parts in
    let asked = parsed_question c.args.question.now in
    elim c.if-is_asked.branch [
      | then-is_asked+in_ok-push_ref w ↦
          rw w.builder-is (record {
            pushes = pushes_next item asked c.args.table.now c.loop-found.found-index c.found-item.result _ c.loop-found-test.true c.found-item.is (sym c.is_asked.ensures ∙ w.if-is_asked.true)
                c.args.builder.now c.loop-found.builder _ w.in_ok-push_ref.ensures.accepted w.in_ok-push_ref.ensures.outcome.each c.loop-found.invariant.pushes;
          })
      | else-is_asked w ↦
          rw w.builder-is (record {
            pushes = exceeds_next item asked c.args.table.now c.loop-found.found-index c.found-item.result _ c.loop-found-test.true c.found-item.is (sym c.is_asked.ensures ∙ w.if-is_asked.false)
                c.args.builder.now c.loop-found.builder c.loop-found.invariant.pushes;
          })
    ]

pub returns-in_err-push_ref : goal.returns-in_err-push_ref
returns-in_err-push_ref g c s h =
    let item = record_item g.N.ToName.name g.D.RecordData.rtype_of g.D.RecordData.parts in
    let p = err_from_is_err_and c.from_residual.result c.from_residual.ensures.1 in
    rw (p.1, p.2, c.in_err-push_ref.ensures.refused)
    (refused_next item (parsed_question c.args.question.now) c.args.table.now c.loop-found.found-index c.found-item.result _ c.loop-found-test.true
    c.found-item.is (sym c.is_asked.ensures ∙ c.if-is_asked.true)
    c.args.builder.now c.loop-found.builder c.loop-found.invariant.pushes c.in_err-push_ref.field-0.0 c.in_err-push_ref.ensures.outcome.each s h)
