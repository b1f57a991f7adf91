use Rattle.std.proofs.Common.{arith, ◌≡◌, ◌+◌, ◌-◌, ◌<◌, length, ap}
use Rattle.dns_target.specs.FingerprintIndex.{FingerprintEntries, hashed_of}
use Rattle.dns_target.proofs.EntryLists.{other_name, sought_here, sought_all}
use Rattle.dns_target.proofs.FingerprintLemmas.{looked_at, sought_other, other_hash, bucket_start, bucket_next, bucket_older-le}
use Rattle.dns_target.proofs.fingerprint_index.FingerprintIndex.find.Goals.{else-entry-hash-via-then-entry-hash+else-is_suffix_at, else-entry-hash-via-else-entry-hash}
use Rattle.dns_target.proofs.fingerprint_index.FingerprintIndex.find.Goals as goal

pub loop-at-init : goal.loop-at-init
loop-at-init c =
    let size : c.len-size.result ≡ length c.self.inside.heads.items = let k = c.self.inside.heads.ok.0 in omega (arith, c.len-size.ensures) in
    let some : 0 < length c.self.inside.heads.items = let k = c.if-size-eq0.false in omega arith in
    bucket_start c.args.content.now c.args.self.now.suffixes _ c.self.inside.heads.items c.self.inside.entries.items c.args.hash
    c.len-size.result c.index-at.result.now c.self.invariant some
    (ap (λ (s : FingerprintEntries). s.suffixes) c.self.view_is) c.requires.names_at c.requires.hashed c.requires.hash size c.index-at.ensures

pub returns-then-is_suffix_at : goal.returns-then-is_suffix_at
returns-then-is_suffix_at c =
    let k : c.loop-at.at ≡ c.loop-at.at - 1 + 1 = omega arith in
    let at = looked_at _ _ _ c.self.inside.entries.items c.loop-at.at (c.loop-at.at - 1) c.index-entry.result.now k c.loop-at.invariant.sought c.index-entry.ensures in
    sought_here _ _ _ _ _ _ _ at.sought c.from.ensures c.is_suffix_at.ensures c.if-is_suffix_at.true

pub loop-at-smaller : goal.loop-at-smaller
loop-at-smaller c =
    let size : c.len-size.result ≡ length c.self.inside.heads.items = let k = c.self.inside.heads.ok.0 in omega (arith, c.len-size.ensures) in
    let some : 0 < length c.self.inside.heads.items = let k = c.if-size-eq0.false in omega arith in
    let within = c.loop-at.invariant.sought.within in
    let l : c.loop-at.at - 1 < length c.self.inside.entries.items = omega arith in
    let le = bucket_older-le c.self.inside.heads.items c.self.inside.entries.items c.index-entry.result.now (c.loop-at.at - 1) c.self.invariant some l c.index-entry.ensures in
    omega arith

pub loop-at-preserved : goal.loop-at-preserved
loop-at-preserved c =
    let size : c.len-size.result ≡ length c.self.inside.heads.items = let k = c.self.inside.heads.ok.0 in omega (arith, c.len-size.ensures) in
    let some : 0 < length c.self.inside.heads.items = let k = c.if-size-eq0.false in omega arith in
    let k : c.loop-at.at ≡ c.loop-at.at - 1 + 1 = omega arith in
    let at = looked_at _ _ _ c.self.inside.entries.items c.loop-at.at (c.loop-at.at - 1) c.index-entry.result.now k c.loop-at.invariant.sought c.index-entry.ensures in
    let on = sought_other _ _ _ c.self.inside.entries.items (c.loop-at.at - 1) (hashed_of c.index-entry.result.now) at
    (elim c.else-entry-hash.branch [
      | else-entry-hash-via-then-entry-hash+else-is_suffix_at w ↦ other_name _ _ _ _ _ _ _ at.sought w.from.ensures w.is_suffix_at.ensures w.if-is_suffix_at.false
      | else-entry-hash-via-else-entry-hash w ↦ other_hash _ _ _ c.self.inside.entries.items (c.loop-at.at - 1) c.args.hash
          (hashed_of c.index-entry.result.now) at c.requires.hash w.if-entry-hash.false
    ]) in
    bucket_next c.self.inside.heads.items _ _ _ c.self.inside.entries.items c.index-entry.result.now c.args.hash c.loop-at.at
    (c.loop-at.at - 1) c.self.invariant some k c.loop-at.invariant c.index-entry.ensures on c.requires.hash

pub returns : goal.returns
returns c = let none : c.loop-at.at ≡ 0 = omega arith in sought_all _ _ _ (rw none at c.loop-at.invariant.sought.sought)
