use Rattle.std.proofs.Common.{◌∙◌, ◌+◌, ◌*◌, arith}
use Rattle.fields_parameters.proofs.NamedKeys.{key_above}
use Rattle.fields_parameters.proofs.parameter.are_keys.Goals as goal

pub keys-preserved : goal.keys-preserved
keys-preserved c =
    c.keys.invariant
    ∙ key_above c.keys.least (c.from.result * 256 + c.from-in-len2-up.result) c.keys.left.now c.in-len2-up.len_at_least (omega (arith, c.from.ensures, c.from-in-len2-up.ensures)) c.if-key-least.false
