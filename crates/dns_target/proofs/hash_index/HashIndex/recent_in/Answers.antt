use Rattle.std.proofs.Common.{ℕ, Option, Some, arith, subst, sym}
use Rattle.dns_name.specs.Names.{Labels, NameAt}
use Rattle.dns_target.specs.TableEntries.{table_in}
use Rattle.dns_target.specs.HashIndex.{IsParent, ParentIsName, table_entries_in}
use Rattle.dns_target.proofs.EntryLemmas.{name_at_inside}
use Rattle.dns_target.proofs.KeyedNames.{parent_is_at}
use Rattle.dns_target.proofs.hash_index.HashIndex.recent_in.Goals as goal

pub is_flat_name_at-requires : goal.is_flat_name_at-requires
is_flat_name_at-requires c =
    let parent = subst (λ (r : Option ℕ). IsParent c.args.content.now c.args.self.now.suffixes.suffixes r) c.in-Some.is c.requires.recent in
    let within = name_at_inside (parent_is_at c.args.content.now c.args.self.now.suffixes.suffixes c.in-Some.offset parent c.requires.entries.is_table) in
    let at = c.from.ensures in omega arith

pub returns-clause-there : goal.returns-clause-there
returns-clause-there c =
    let parent = subst (λ (r : Option ℕ). IsParent c.args.content.now c.args.self.now.suffixes.suffixes r) c.in-Some.is c.requires.recent in
    let encoded = subst (λ (p : ℕ). NameAt c.args.content.now p parent.0) (sym c.from.ensures)
    (parent_is_at c.args.content.now c.args.self.now.suffixes.suffixes c.in-Some.offset parent c.requires.entries.is_table) in
    let same = c.is_flat_name_at.ensures _ parent.0 encoded c.tail.ensures.name c.tail.ensures.octets c.if-not-is_flat_name_at.false in
    subst (λ (n : Labels). ParentIsName (table_in c.args.content.now (table_entries_in c.args.self.now.suffixes.suffixes)) (Some c.in-Some.offset) n) same parent.1
