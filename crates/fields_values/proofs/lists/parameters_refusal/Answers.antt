use Rattle.std.proofs.Common.{[]}
use Rattle.fields_values.specs.NewValues.{AreParametersIn}
use Rattle.fields_values.proofs.ListSteps.{parameter_fits, parameter_wrong, parameters_fit, same_start}
use Rattle.fields_values.proofs.lists.parameters_refusal.Goals as goal

pub loop-parameter-init : goal.loop-parameter-init
loop-parameter-init c = same_start (AreParametersIn 0 c.args.parameters.now)

pub loop-parameter-preserved : goal.loop-parameter-preserved
loop-parameter-preserved c =
    rw c.from-key.ensures
    (parameter_fits c.loop-parameter.least c.args.parameters.now c.loop-parameter.parameter-index (0, record { ref_ptr = (0, 0); now = [] })
    c.loop-parameter.invariant c.loop-parameter-test.true (c.is_parameter.ensures.0 c.if-not-is_parameter.false))

pub returns-then-not-is_parameter : goal.returns-then-not-is_parameter
returns-then-not-is_parameter c =
    parameter_wrong c.loop-parameter.least c.args.parameters.now c.loop-parameter.parameter-index (0, record { ref_ptr = (0, 0); now = [] }) c.loop-parameter.invariant c.loop-parameter-test.true
    (λ has. let is_true = c.is_parameter.ensures.1 has in cc (is_true, c.if-not-is_parameter.true))

pub returns : goal.returns
returns c = parameters_fit c.loop-parameter.least c.args.parameters.now c.loop-parameter.parameter-index (0, record { ref_ptr = (0, 0); now = [] })
    c.loop-parameter.invariant c.loop-parameter-test.false
