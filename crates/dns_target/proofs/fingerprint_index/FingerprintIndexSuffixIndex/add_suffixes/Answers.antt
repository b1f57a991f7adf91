use Rattle.std.proofs.Common.{arith, List, ap, sym, subst, ◌∙◌, length, ◌≡◌, ◌≤◌, ◌+◌, ◌-◌}
use Rattle.dns_target.specs.FingerprintIndex.{hash_of, FingerprintEntry, AreHashed, table_entries_at}
use Rattle.dns_wire.proofs.theory.Choices.{found_within}
use Rattle.dns_target.proofs.EntryLists.{none_added, one_added, next_added}
use Rattle.dns_target.proofs.fingerprint_index.FingerprintIndexSuffixIndex.add_suffixes.Goals as goal

pub loop-index-init : goal.loop-index-init
loop-index-init c =
    let same = c.widen.ensures.suffixes ∙ c.in_ok-reserve.ensures.suffixes in
    record {
      within = omega arith;
      entries = ap table_entries_at same ∙ none_added (table_entries_at c.args.self.now.suffixes) c.args.count c.args.labels.now c.args.offset (length c.args.content.now);
      hashed = subst (λ (xs : List FingerprintEntry). AreHashed c.args.content.now xs) (sym same) c.requires.is_of;
      capacity = let r = c.in_ok-reserve.ensures.ok in let size = ap length c.widen.ensures.suffixes in let capacity = c.widen.ensures.capacity in omega arith;
    }

pub start-requires : goal.start-requires
start-requires c =
    let l = c.loop-index.invariant.within in
    let k = c.requires.add.within in
    let f = found_within _ c.args.labels.now _ _ c.requires.add.found.there in omega arith

pub loop-index-preserved : goal.loop-index-preserved
loop-index-preserved c =
    let k : c.loop-index.index ≡ c.loop-index.index - 1 + 1 = omega arith in
    let l = c.loop-index.invariant.within in
    let h : c.args.count ≤ length c.args.labels.now = let a = c.requires.add.within in let f = found_within _ c.args.labels.now _ _ c.requires.add.found.there in omega arith in
    let next = next_added c.args.content.now _ _ c.args.labels.now c.args.offset _ _ c.args.count c.loop-index.index (c.loop-index.index - 1) k l c.requires.add c.loop-index.invariant.entries in
    let offset = ap (λ n. c.args.offset + n) c.start.ensures.start in
    record {
      within = omega arith;
      entries = one_added (table_entries_at c.args.self.now.suffixes) (table_entries_at c.loop-index.self.suffixes)
          (table_entries_at c.push.new.self.suffixes) c.args.count c.args.labels.now c.args.offset
          (length c.args.content.now) c.loop-index.index (c.loop-index.index - 1) _ k l h c.loop-index.invariant.entries offset
          (ap table_entries_at c.push.ensures.suffixes);
      hashed = rw (c.push.ensures.suffixes, offset) (c.hash_by-hash.ensures ∙ ap hash_of (sym next.0), c.loop-index.invariant.hashed);
      capacity = let one = ap length c.push.ensures.suffixes in let cap = c.push.ensures.capacity in let was = c.loop-index.invariant.capacity in omega arith;
    }

pub returns-clause-ok : goal.returns-clause-ok
returns-clause-ok c = let none : c.loop-index.index ≡ 0 = omega arith in rw none at c.loop-index.invariant.entries

pub returns-clause-is_of : goal.returns-clause-is_of
returns-clause-is_of c = c.loop-index.invariant.hashed
