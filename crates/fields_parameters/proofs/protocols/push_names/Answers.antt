use Rattle.std.proofs.Common.{◌≡◌, length, arith, false}
use Rattle.std.proofs.lemmas.Grind.{common_steps}
use Rattle.fields_parameters.proofs.ParameterLemmas.{no_items}
use Rattle.fields_parameters.proofs.ProtocolLemmas.{at_end}
use Rattle.fields_parameters.proofs.protocols.push_names.Goals as goal

pub octets-init : goal.octets-init
octets-init g c = λ new pushed all. all

pub octets-preserved : goal.octets-preserved
octets-preserved g c = λ new pushed after. c.octets.invariant new pushed (c.in-Some.ensures.1 new pushed after)

pub returns-in-None : goal.returns-in-None
returns-in-None g c = c.octets.invariant c.push_first.new.value.items false c.in-None.ensures

pub returns : goal.returns
returns g c =
    let none : length c.octets.left.now ≡ 0 = grind (arith, common_steps) in
    c.octets.invariant c.push_name.new.value.items c.push_name.result
    (at_end g.row.N c.octets.name.items c.octets.left.now c.octets.value.items c.push_name.new.value.items c.push_name.result (no_items c.octets.left.now (omega arith)) c.push_name.ensures)
