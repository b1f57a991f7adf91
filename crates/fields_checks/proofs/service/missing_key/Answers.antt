use Rattle.std.proofs.Common.{◌≡◌, ◌∷◌, ◌∙◌, ℕ, ap, sym, rules}
use Rattle.std.specs.Prelude.{Option, find, not}
use Rattle.std.specs.List.{flat_map}
use Rattle.std.specs.Option.{option_or}
use Rattle.fields_checks.proofs.CheckLemmas.{listed_step}
use Rattle.fields_checks.specs.Services.{has_key, listed_keys}
use Rattle.fields_parameters.specs.ItemsLeft.{parameter_item, parameters_left}
use Rattle.fields_parameters.specs.ParameterItems.{parameters_of}
use Rattle.fields_checks.proofs.service.missing_key.Goals as goal

pub returns-in-Some-missing_listed : goal.returns-in-Some-missing_listed
returns-in-Some-missing_listed c =
    let items = parameters_of c.args.parameters.now in
    let old = parameters_left c.loop-parameter.parameter-iterator in
    let rest = parameters_left c.next.new.self in
    let item = parameter_item c.in-Some.parameter in
    let left : old ≡ item ∷ rest = search rules in
    let p = λ (key : ℕ). not (has_key items key) in
    ap (λ (found : Option ℕ). option_or found (find p (flat_map listed_keys rest))) c.in-Some-missing_listed.ensures ∙ sym (listed_step p old rest item left) ∙ c.loop-parameter.invariant.same

pub loop-parameter-preserved : goal.loop-parameter-preserved
loop-parameter-preserved c =
    let items = parameters_of c.args.parameters.now in
    let old = parameters_left c.loop-parameter.parameter-iterator in
    let rest = parameters_left c.next.new.self in
    let item = parameter_item c.in-Some.parameter in
    let left : old ≡ item ∷ rest = search rules in
    let p = λ (key : ℕ). not (has_key items key) in
    record {
      can = tt;
      finite = tt;
      same = ap (λ (found : Option ℕ). option_or found (find p (flat_map listed_keys rest))) c.in_default.ensures ∙ sym (listed_step p old rest item left) ∙ c.loop-parameter.invariant.same;
    }
