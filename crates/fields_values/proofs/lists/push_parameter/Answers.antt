use Rattle.std.proofs.Common.{refl, inl, inr}
use Rattle.fields_values.proofs.ListSteps.{value_wrong}
use Rattle.fields_values.proofs.lists.push_parameter.Goals as goal

pub returns-then-not-is_parameter : goal.returns-then-not-is_parameter
returns-then-not-is_parameter c = inr (refl, λ octets is. let is_true = c.is_parameter.ensures.1 (octets, is) in cc (is_true, c.if-not-is_parameter.true))

pub returns-in-Err : goal.returns-in-Err
returns-in-Err c = inl (c.in-Err.ensures.err, c.is_parameter.ensures.0 c.if-not-is_parameter.false)

pub returns-in-Err-push_sized : goal.returns-in-Err-push_sized
returns-in-Err-push_sized c =
    value_wrong c.args.least c.args.parameter.now c.in-Err-push_sized.refusal (c.is_parameter.ensures.0 c.if-not-is_parameter.false) c.in-Err-push_sized.ensures
