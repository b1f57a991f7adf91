use Rattle.std.proofs.Common.{subst, sym}
use Rattle.dns_wire.specs.Encoders.{CompressionTable}
use Rattle.dns_wire.specs.Choice.{IsFound}
use Rattle.dns_target.proofs.TreeStates.{tree_table}
use Rattle.dns_target.proofs.tree_index.TreeIndexSuffixIndex.look_up.Goals as goal

pub returns-clause-found : goal.returns-clause-found
returns-clause-found c =
    subst (λ (m : CompressionTable). IsFound m c.args.labels.now c.look_up-lookup.result.found.from c.look_up-lookup.result.found.offset)
    (sym (tree_table c.args._content.now c.args.self.now.entries c.requires.is_of)) c.look_up-lookup.ensures.found
