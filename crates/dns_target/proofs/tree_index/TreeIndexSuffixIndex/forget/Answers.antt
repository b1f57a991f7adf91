use Rattle.std.proofs.Common.{ap, ◌∙◌}
use Rattle.dns_target.specs.TreeIndex.{table_entries_of}
use Rattle.dns_target.proofs.TreeStates.{table_entries-cut, tree_cut}
use Rattle.dns_target.proofs.tree_index.TreeIndexSuffixIndex.forget.Goals as goal

pub returns-clause-is_of : goal.returns-clause-is_of
returns-clause-is_of c b h e = tree_cut b c.args.self.now.entries c.cut.new.self.entries c.args.len h c.cut.ensures e

pub returns-clause-table_entries : goal.returns-clause-table_entries
returns-clause-table_entries c = ap table_entries_of c.cut.ensures ∙ table_entries-cut c.args.self.now.entries c.args.len c.requires.is_of.1.tree
