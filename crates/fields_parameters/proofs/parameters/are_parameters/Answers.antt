use Rattle.std.proofs.Common.{◌+◌, ◌*◌, ◌∙◌, sym, arith}
use Rattle.fields_parameters.proofs.ItemSteps.{Parameter, parameter_step, parameter_below, parameter_short}
use Rattle.fields_parameters.proofs.parameters.are_parameters.Goals as goal
use Rattle.fields_parameters.proofs.parameters.are_parameters.Goals.{then-key-least-via-then-key-least, then-key-least-via-else-key-least+then-size-rest}

pub returns-then-key-least : goal.returns-then-key-least
returns-then-key-least c =
    let h : Parameter c.parameters.left.now (c.from.result * 256 + c.from-in-len4-up.result) (c.from-in-len4-up-2.result * 256 + c.from-in-len4-up-3.result) =
    record { some = c.in-len4-up.len_at_least; key_is = omega (arith, c.from.ensures, c.from-in-len4-up.ensures); size_is = omega (arith, c.from-in-len4-up-2.ensures, c.from-in-len4-up-3.ensures) } in
    elim c.then-key-least.branch [
      | then-key-least-via-then-key-least w ↦ sym (c.parameters.invariant ∙ parameter_below _ _ _ c.parameters.left.now h w.if-key-least.true)
      | then-key-least-via-else-key-least+then-size-rest w ↦ sym (c.parameters.invariant ∙ parameter_short _ _ _ c.parameters.left.now h w.if-size-rest.true)
    ]

pub parameters-preserved : goal.parameters-preserved
parameters-preserved c =
    let h : Parameter c.parameters.left.now (c.from.result * 256 + c.from-in-len4-up.result) (c.from-in-len4-up-2.result * 256 + c.from-in-len4-up-3.result) =
    record { some = c.in-len4-up.len_at_least; key_is = omega (arith, c.from.ensures, c.from-in-len4-up.ensures); size_is = omega (arith, c.from-in-len4-up-2.ensures, c.from-in-len4-up-3.ensures) } in
    c.parameters.invariant ∙ parameter_step _ _ _ c.parameters.left.now h c.if-key-least.false c.if-size-rest.false
