use Rattle.std.proofs.Common.{◌+◌, ◌∙◌, ap, arith}
use Rattle.fields_lists.proofs.ItemSteps.{block_step}
use Rattle.fields_lists.proofs.type_map.is_type_map.Goals as goal

pub windows-preserved : goal.windows-preserved
windows-preserved c =
    c.windows.invariant ∙ block_step c.windows.least _ _ c.windows.left.now c.in-len2-up.len_at_least c.from-size.ensures (ap (λ k. k + 1) c.from-least.ensures)
    c.if-size-rest.false (omega (arith, c.from.ensures)) c.if-not-is_bit_map.ensures
