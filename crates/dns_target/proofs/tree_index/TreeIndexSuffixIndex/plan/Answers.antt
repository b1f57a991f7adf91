use Rattle.std.proofs.Common.{length}
use Rattle.dns_target.proofs.EntryStates.{tree_encoded}
use Rattle.dns_target.proofs.tree_index.TreeIndexSuffixIndex.plan.Goals as goal

pub returns-clause-plans : goal.returns-clause-plans
returns-clause-plans c m e f = tree_encoded m (length c.args.content.now) c.args.labels.now c.args.found.from c.in_range-count.result c.args.found.offset f c.in_range-count.ensures
