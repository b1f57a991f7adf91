use Rattle.std.proofs.Common.{◌∙◌, ◌+◌, ◌∷◌, ap, sym, refl, subst, drop, arith}
use Rattle.std.proofs.lemmas.Result.{err_from_is_err_and}
use Rattle.std.proofs.lemmas.List.{at_drop_more, drop_all}
use Rattle.std.specs.Prelude.{map, Ok, Err}
use Rattle.dns_edns.specs.OptData.{option_of}
use Rattle.dns_edns_builder.specs.Additions.{Adds}
use Rattle.dns_edns_builder.specs.Gathered.{gathered}
use Rattle.dns_edns_builder.proofs.theory.OptBuilderLemmas.{one_added, none_left}
use Rattle.dns_script.specs.OptPlans.{gathered_size, AddsOptions}
use Rattle.dns_script.proofs.PlannedOpts.{added_first, refused_first}
use Rattle.dns_script.proofs.opt_plan.push_options.Goals as goal

pub loop-option-preserved : goal.loop-option-preserved
loop-option-preserved c =
    let first = at_drop_more (map option_of) _ _ _ c.loop-option-test.true ∙ ap (λ x. option_of x ∷ map option_of (drop (c.loop-option.option-index + 1) c.args.options.now)) (sym c.option-item.is) in
    let added = subst (λ r. Adds (option_of c.option-item.result) c.loop-option.builder c.push.new.self r) c.in_ok-push.was c.push.ensures in
    record {
      all = one_added _ c.loop-option.builder c.push.new.self _ _ added.0 first ∙ c.loop-option.invariant.all;
      adds = λ outcome rest. c.loop-option.invariant.adds outcome
          (subst (λ xs. AddsOptions (gathered_size (gathered c.loop-option.builder)) xs outcome) (sym first) (added_first _ c.loop-option.builder c.push.new.self _ outcome added rest));
    }

pub returns-in_err-push-clause-adds : goal.returns-in_err-push-clause-adds
returns-in_err-push-clause-adds c =
    let first = at_drop_more (map option_of) _ _ _ c.loop-option-test.true ∙ ap (λ x. option_of x ∷ map option_of (drop (c.loop-option.option-index + 1) c.args.options.now)) (sym c.option-item.is) in
    let p = err_from_is_err_and c.from_residual.result c.from_residual.ensures.1 in
    let refused = subst (λ r. Adds (option_of c.option-item.result) c.loop-option.builder c.push.new.self r) c.in_err-push.was c.push.ensures in
    rw (p.1, p.2) (c.loop-option.invariant.adds (Err c.in_err-push.field-0.0)
    (subst (λ xs. AddsOptions (gathered_size (gathered c.loop-option.builder)) xs (Err c.in_err-push.field-0.0)) (sym first)
    (refused_first (option_of c.option-item.result) c.loop-option.builder c.push.new.self _ c.in_err-push.field-0.0 refused)))

pub returns-clause-done : goal.returns-clause-done
returns-clause-done c =
    let none = ap (map option_of) (drop_all c.loop-option.option-index c.args.options.now (omega (arith, c.loop-option-test.false))) in
    sym (none_left c.loop-option.builder _ none) ∙ c.loop-option.invariant.all

pub returns-clause-adds : goal.returns-clause-adds
returns-clause-adds c =
    let none = ap (map option_of) (drop_all c.loop-option.option-index c.args.options.now (omega (arith, c.loop-option-test.false))) in
    c.loop-option.invariant.adds (Ok tt) (subst (λ xs. AddsOptions (gathered_size (gathered c.loop-option.builder)) xs (Ok tt)) (sym none) refl)
