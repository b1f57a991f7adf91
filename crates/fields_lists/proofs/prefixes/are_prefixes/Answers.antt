use Rattle.std.proofs.Common.{◌∙◌, sym}
use Rattle.fields_lists.proofs.ItemSteps.{prefix_step, prefix_short}
use Rattle.fields_lists.proofs.prefixes.are_prefixes.Goals as goal

pub returns-then-size-rest : goal.returns-then-size-rest
returns-then-size-rest c = sym (c.prefixes.invariant ∙ prefix_short _ c.prefixes.left.now c.in-len4-up.len_at_least c.from-size.ensures c.if-size-rest.true)

pub prefixes-preserved : goal.prefixes-preserved
prefixes-preserved c = c.prefixes.invariant ∙ prefix_step _ c.prefixes.left.now c.in-len4-up.len_at_least c.from-size.ensures c.if-size-rest.false
