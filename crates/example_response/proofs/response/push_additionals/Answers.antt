use Rattle.std.proofs.Common.{◌∙◌, ◌++◌, ap, refl, sym, take}
use Rattle.std.proofs.lemmas.List.{take_all}
use Rattle.std.specs.List.{flat_map}
use Rattle.example_response.specs.Sets.{glue_sets, record_glue}
use Rattle.example_response.proofs.Fitting.{fits_more, sets-more, sets_are}
use Rattle.dns_message.specs.Builders.{InAdditional}
use Rattle.example_response.proofs.response.push_additionals.Goals as goal

pub loop-record-init : goal.loop-record-init
loop-record-init c = record { fitted = λ s h. h; reserved = refl }

pub loop-record-preserved : goal.loop-record-preserved
loop-record-preserved c =
    let zone = c.args.zone.now in
    let cut = c.in-Delegated.cut.now in
    let glue = record_glue zone cut in
    let i = c.loop-record.record-index in
    let items = c.deref-record-items.result.now in
    record {
      fitted = fits_more InAdditional (flat_map glue (take i items)) (glue_sets zone cut c.data.result.now) _ c.args.builder.now c.loop-record.builder c.push_glue.new.builder
          (sets-more glue items i c.record-item.result c.loop-record-test.true c.record-item.is ∙ ap (λ d. flat_map glue (take i items) ++ glue_sets zone cut d) (sym c.data.ensures))
          c.loop-record.invariant.fitted c.loop-record.invariant.reserved c.in_ok-push_glue.ensures.fits;
      reserved = c.in_ok-push_glue.ensures.reserved ∙ c.loop-record.invariant.reserved;
    }

pub returns-clause-fits : goal.returns-clause-fits
returns-clause-fits c =
    let glue = record_glue c.args.zone.now c.in-Delegated.cut.now in
    rw c.in-Delegated.is
    (sets_are InAdditional _ _ c.args.builder.now c.loop-record.builder.built
    (ap (flat_map glue) (take_all c.loop-record.record-index c.deref-record-items.result.now c.loop-record-test.false ∙ c.deref-record-items.ensures.value))
    c.loop-record.invariant.fitted)
