use Rattle.std.proofs.Common.{◌∙◌, ap, map, refl, take}
use Rattle.std.proofs.lemmas.List.{take_all}
use Rattle.std.specs.List.{flat_map}
use Rattle.dns_message.specs.Builders.{InAnswer}
use Rattle.example_response.specs.Answers.{step_shown}
use Rattle.example_response.specs.Sets.{answer_sets}
use Rattle.example_response.proofs.Fitting.{fits_more, sets-shown_more, sets_are}
use Rattle.example_response.proofs.response.push_answers.Goals as goal

pub loop-step-init : goal.loop-step-init
loop-step-init c = record { fitted = λ s h. h; reserved = refl }

pub loop-step-preserved : goal.loop-step-preserved
loop-step-preserved c =
    let steps = c.args.steps.now in
    let i = c.loop-step.step-index in
    let step = c.step-item.result in
    record {
      fitted = fits_more InAnswer (flat_map answer_sets (map step_shown (take i steps))) (answer_sets (step_shown step)) _ c.args.builder.now c.loop-step.builder c.push_step.new.builder
          (sets-shown_more answer_sets step_shown steps i step c.loop-step-test.true c.step-item.is) c.loop-step.invariant.fitted c.loop-step.invariant.reserved c.in_ok-push_step.ensures.fits;
      reserved = c.in_ok-push_step.ensures.reserved ∙ c.loop-step.invariant.reserved;
    }

pub returns-clause-fits : goal.returns-clause-fits
returns-clause-fits c =
    sets_are InAnswer _ _ c.args.builder.now c.loop-step.builder.built
    (ap (λ steps. flat_map answer_sets (map step_shown steps)) (take_all c.loop-step.step-index c.args.steps.now c.loop-step-test.false)) c.loop-step.invariant.fitted
