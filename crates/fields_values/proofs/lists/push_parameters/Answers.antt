use Rattle.std.proofs.Common.{[]}
use Rattle.fields_values.proofs.ListSteps.{parameters_end, parameters_more}
use Rattle.fields_values.proofs.lists.push_parameters.Goals as goal

pub loop-parameter-preserved : goal.loop-parameter-preserved
loop-parameter-preserved c =
    rw c.from-least.ensures
    (parameters_more c.loop-parameter.least c.args.parameters.now c.loop-parameter.parameter-index (0, record { ref_ptr = (0, 0); now = [] })
    c.args.octets.now.items c.loop-parameter.octets.items c.push_parameter.new.octets.items c.loop-parameter-test.true c.loop-parameter.invariant tt c.in-Ok.ensures)

pub returns : goal.returns
returns c = parameters_end c.loop-parameter.least c.args.parameters.now c.loop-parameter.parameter-index c.args.octets.now.items c.loop-parameter.octets.items
    tt c.loop-parameter-test.false c.loop-parameter.invariant
