use Rattle.std.proofs.Common.{◌≡◌, ◌∷◌, ◌∙◌, sym, rules, false}
use Rattle.fields_checks.proofs.CheckLemmas.{bad_later}
use Rattle.fields_checks.specs.Services.{is_bad_mandatory}
use Rattle.fields_parameters.specs.ItemsLeft.{parameter_item, parameters_left}
use Rattle.fields_checks.proofs.service.has_bad_mandatory.Goals as goal

pub loop-parameter-preserved : goal.loop-parameter-preserved
loop-parameter-preserved c =
    let old = parameters_left c.loop-parameter.parameter-iterator in
    let rest = parameters_left c.next.new.self in
    let item = parameter_item c.in-Some.parameter in
    let left : old ≡ item ∷ rest = search rules in
    let good : is_bad_mandatory item ≡ false = search rules in
    record {
      can = tt;
      finite = tt;
      same = sym (bad_later old rest item left good) ∙ c.loop-parameter.invariant.same;
    }
