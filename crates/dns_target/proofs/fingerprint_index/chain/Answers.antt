use Rattle.std.proofs.Common.{◌≡◌, ◌+◌, ◌<◌, ◌∙◌, arith, refl, length, ap, sym, set}
use Rattle.std.proofs.lemmas.List.{length-set}
use Rattle.dns_target.specs.declared.fingerprint_index.Fingerprint.{Fingerprint}
use Rattle.dns_target.specs.FingerprintIndex.{hashed_of}
use Rattle.dns_target.proofs.FingerprintLemmas.{chain_step, hashed_same, read_twice}
use Rattle.dns_target.proofs.fingerprint_index.chain.Goals as goal

pub loop-index-preserved : goal.loop-index-preserved
loop-index-preserved c =
    let ms = c.loop-index.entries.items in
    let k = c.loop-index.index in
    let heads = c.loop-index.heads.items in
    let x = c.index.result.now in
    let m : Fingerprint = record { hash = c.index_mut.result.now.hash; offset = c.index_mut.result.now.offset; end = c.index_mut.result.now.end; older = c.link-older.result } in
    let l : k < length ms = let z = c.loop-index.entries.ok.0 in omega (arith, c.len.ensures, c.loop-index-test.true) in
    let same : x ≡ c.index_mut.result.now = read_twice ms k x c.index_mut.result.now l c.index.ensures c.index_mut.ensures.value in
    let hashed_suffix : hashed_of m ≡ hashed_of x = ap hashed_of (sym same) in
    let size = length-set ms k m in
    record {
      within = omega arith;
      chained = chain_step heads c.link-older.new.heads.items ms (set ms k m) x m k
          (k + 1) c.loop-index.invariant.chained l refl c.index.ensures hashed_suffix c.link-older.ensures.heads c.link-older.ensures.older refl;
      suffixes = hashed_same ms (set ms k m) x m k c.index.ensures hashed_suffix refl ∙ c.loop-index.invariant.suffixes;
      long = size ∙ c.loop-index.invariant.long;
      capacity = c.loop-index.invariant.capacity;
    }
