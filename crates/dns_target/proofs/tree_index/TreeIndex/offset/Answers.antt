use Rattle.std.proofs.Common.{ap, sym}
use Rattle.dns_target.specs.TreeIndex.{Shape, Entry}
use Rattle.dns_target.proofs.Trees.{node_at}
use Rattle.dns_target.proofs.tree_index.TreeIndex.offset.Goals as goal

pub returns : goal.returns
returns c =
    sym (ap (λ (t : Entry). t.offset) (node_at c.self.inside.nodes.items c.args.self.now.entries c.args.at c.index.result.now
    (ap (λ (s : Shape). s.entries) c.self.view_is) c.requires c.index.ensures))
