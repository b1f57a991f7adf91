use Rattle.std.proofs.Common.{arith, ◌≡◌, ◌+◌, ◌-◌}
use Rattle.dns_target.specs.FingerprintIndex.{hashed_of}
use Rattle.dns_target.proofs.FingerprintLemmas.{looked_at, sought_other, other_hash}
use Rattle.dns_target.proofs.EntryLists.{other_name, sought_here, sought_all, sought_inside}
use Rattle.dns_target.proofs.fingerprint_index.FingerprintIndex.scan.Goals.{else-entry-hash-via-then-entry-hash+else-is_suffix_at, else-entry-hash-via-else-entry-hash}
use Rattle.dns_target.proofs.fingerprint_index.FingerprintIndex.scan.Goals as goal

pub returns : goal.returns
returns c = let none : c.loop-index.index ≡ 0 = omega arith in sought_all _ _ _ (rw none at c.loop-index.invariant.sought)

pub returns-then-is_suffix_at : goal.returns-then-is_suffix_at
returns-then-is_suffix_at c =
    let k : c.loop-index.index ≡ c.loop-index.index - 1 + 1 = omega arith in
    let at = looked_at _ _ _ c.self.inside.entries.items c.loop-index.index (c.loop-index.index - 1) c.index-entry.result.now k c.loop-index.invariant c.index-entry.ensures in
    sought_here _ _ _ _ _ _ _ at.sought c.from.ensures c.is_suffix_at.ensures c.if-is_suffix_at.true

pub loop-index-preserved : goal.loop-index-preserved
loop-index-preserved c =
    let k : c.loop-index.index ≡ c.loop-index.index - 1 + 1 = omega arith in
    let at = looked_at _ _ _ c.self.inside.entries.items c.loop-index.index (c.loop-index.index - 1) c.index-entry.result.now k c.loop-index.invariant c.index-entry.ensures in
    sought_other _ _ _ c.self.inside.entries.items (c.loop-index.index - 1) (hashed_of c.index-entry.result.now) at
    (elim c.else-entry-hash.branch [
      | else-entry-hash-via-then-entry-hash+else-is_suffix_at w ↦ other_name _ _ _ _ _ _ _ at.sought w.from.ensures w.is_suffix_at.ensures w.if-is_suffix_at.false
      | else-entry-hash-via-else-entry-hash w ↦ other_hash _ _ _ c.self.inside.entries.items (c.loop-index.index - 1) c.args.hash
          (hashed_of c.index-entry.result.now) at c.requires.hash w.if-entry-hash.false
    ])

pub is_suffix_at-requires-clause-offset : goal.is_suffix_at-requires-clause-offset
is_suffix_at-requires-clause-offset c =
    let k : c.loop-index.index ≡ c.loop-index.index - 1 + 1 = omega arith in
    let at = looked_at _ _ _ c.self.inside.entries.items c.loop-index.index (c.loop-index.index - 1) c.index-entry.result.now k c.loop-index.invariant c.index-entry.ensures in
    sought_inside _ _ _ _ _ _ at.sought c.from.ensures
