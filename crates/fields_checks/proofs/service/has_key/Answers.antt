use Rattle.std.proofs.Common.{◌≡◌, ◌∷◌, ◌∙◌, sym, rules}
use Rattle.fields_checks.proofs.CheckLemmas.{key_later}
use Rattle.fields_parameters.specs.ItemsLeft.{parameter_item, parameters_left}
use Rattle.fields_checks.proofs.service.has_key.Goals as goal

pub loop-parameter-preserved : goal.loop-parameter-preserved
loop-parameter-preserved c =
    let old = parameters_left c.loop-parameter.parameter-iterator in
    let rest = parameters_left c.next.new.self in
    let item = parameter_item c.in-Some.parameter in
    let left : old ≡ item ∷ rest = search rules in
    record {
      can = tt;
      finite = tt;
      same = sym (key_later c.args.key old rest item left (search rules)) ∙ c.loop-parameter.invariant.same;
    }
