use Rattle.std.proofs.Common.{Option, ℕ, List, length, ap, ◌∙◌, sym, subst, ◌≡◌, ◌≤◌, ◌+◌, ◌-◌, drop, arith}
use Rattle.dns_target.specs.TableEntries.{table_in}
use Rattle.dns_target.specs.HashIndex.{KeyedSuffix, AreKeyed, IsParent, table_entries_in, ParentIsName}
use Rattle.dns_wire.proofs.theory.Choices.{found_within}
use Rattle.dns_target.proofs.EntryLists.{none_added, one_added}
use Rattle.dns_target.proofs.KeyedNames.{key_next, first_parent, first_of_parents, found_refers}
use Rattle.dns_target.proofs.hash_index.HashIndexSuffixIndex.add_suffixes.Goals as goal

pub loop-index-init : goal.loop-index-init
loop-index-init c =
    let same = c.in_ok-reserve.ensures.suffixes in
    let there = subst (λ (ss : List KeyedSuffix). IsParent c.args.content.now ss c.args.found.offset) (sym same)
    (_, found_refers _ c.args.labels.now c.args.found.from c.args.found.offset c.requires.add.found.there) in
    record {
      within = omega arith;
      spare_capacity = c.in_ok-reserve.ensures.ok;
      entries = ap table_entries_in same ∙ none_added (table_entries_in c.args.self.now.suffixes.suffixes) c.args.count c.args.labels.now c.args.offset (length c.args.content.now);
      keyed = subst (λ (ss : List KeyedSuffix). AreKeyed c.args.content.now ss) (sym same) c.requires.is_of.0;
      found = there;
      last = there;
      parent = λ some. subst (λ (ss : List KeyedSuffix). ParentIsName
          (table_in c.args.content.now (table_entries_in ss)) c.args.found.offset (drop c.args.count c.args.labels.now)) (sym same)
          (first_parent _ c.args.labels.now c.args.found.from c.args.count c.args.found.offset c.requires.planned.0 some c.requires.add.found.there);
    }

pub start-requires : goal.start-requires
start-requires c =
    let l = c.loop-index.invariant.within in
    let k = c.requires.add.within in
    let f = found_within _ c.args.labels.now _ _ c.requires.add.found.there in omega arith

pub push-requires-clause-new : goal.push-requires-clause-new
push-requires-clause-new c =
    let k : c.loop-index.index ≡ c.loop-index.index - 1 + 1 = omega arith in
    (key_next c.args.content.now _ c.loop-index.self.suffixes.suffixes c.args.labels.now c.args.offset _ _ c.args.count c.loop-index.index
    (c.loop-index.index - 1) c.start.result c.loop-index.parent c.label.result.now k c.loop-index.invariant.within c.requires.add
    c.loop-index.invariant.entries c.loop-index.invariant.keyed (c.loop-index.invariant.parent
    (let l = c.loop-index.invariant.within in omega arith)) c.label.ensures.label c.start.ensures.start).0

pub loop-index-preserved : goal.loop-index-preserved
loop-index-preserved c =
    let k : c.loop-index.index ≡ c.loop-index.index - 1 + 1 = omega arith in
    let within : c.args.count ≤ length c.args.labels.now = let a = c.requires.add.within in let f = found_within _ c.args.labels.now _ _ c.requires.add.found.there in omega arith in
    let all = key_next c.args.content.now _ c.loop-index.self.suffixes.suffixes c.args.labels.now c.args.offset _ _ c.args.count
    c.loop-index.index (c.loop-index.index - 1) c.start.result c.loop-index.parent c.label.result.now k c.loop-index.invariant.within
    c.requires.add c.loop-index.invariant.entries c.loop-index.invariant.keyed
    (c.loop-index.invariant.parent (let l = c.loop-index.invariant.within in omega arith)) c.label.ensures.label c.start.ensures.start in
    record {
      within = let l = c.loop-index.invariant.within in omega arith;
      spare_capacity = let r = c.push.ensures.spare_capacity in let s = c.loop-index.invariant.spare_capacity in omega arith;
      entries = one_added (table_entries_in c.args.self.now.suffixes.suffixes) (table_entries_in c.loop-index.self.suffixes.suffixes)
          (table_entries_in c.push.new.self.suffixes) c.args.count c.args.labels.now c.args.offset
          (length c.args.content.now) c.loop-index.index (c.loop-index.index - 1) _ k c.loop-index.invariant.within within
          c.loop-index.invariant.entries (ap (λ n. c.args.offset + n) c.start.ensures.start) (ap table_entries_in c.push.ensures.suffixes);
      keyed = rw c.push.ensures.suffixes all.1;
      found = rw c.push.ensures.suffixes (all.3 _ c.loop-index.invariant.found);
      last = rw c.push.ensures.suffixes (_, all.2);
      parent = λ some. rw c.push.ensures.suffixes all.2;
    }

pub returns-clause-ok : goal.returns-clause-ok
returns-clause-ok c = let none : c.loop-index.index ≡ 0 = omega arith in rw none at c.loop-index.invariant.entries

pub returns-clause-is_of : goal.returns-clause-is_of
returns-clause-is_of c =
    let recent = first_of_parents c.args.content.now c.loop-index.self.suffixes.suffixes c.args.found.offset c.loop-index.parent c.loop-index.invariant.found c.loop-index.invariant.last in
    (c.loop-index.invariant.keyed, subst (λ (r : Option ℕ). IsParent c.args.content.now c.loop-index.self.suffixes.suffixes r) (sym c.or-self.ensures) recent)
