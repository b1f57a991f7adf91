use Rattle.std.proofs.Common.{◌∙◌, sym}
use Rattle.dns_target.proofs.EntryStates.{static_encoded}
use Rattle.dns_target.proofs.static_index.StaticIndexSuffixIndex.plan.Goals as goal

pub returns-clause-plans : goal.returns-clause-plans
returns-clause-plans c m e f = static_encoded m _ _ _ c.args.found.from c.kept-count.result c.args.found.offset (c.len.ensures.len ∙ sym e) f c.kept-count.ensures.keeps
