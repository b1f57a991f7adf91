use Rattle.std.proofs.Common.{◌≡◌, ◌≤◌, ◌<◌, ◌-◌, length, vec_capacity}
use Rattle.dns_target.specs.Chains.{IsChained}
use Rattle.dns_target.specs.FingerprintIndex.{all_hashed_of, buckets_of, olders_of}
use Rattle.dns_target.proofs.fingerprint_index.chain.Given as goal

abbrev pub invariant-loop-index : goal.invariant-loop-index
invariant-loop-index l = record {
  within : l.index ≤ length l.entries.items;
  chained : 0 < length l.heads.items → IsChained l.heads.items (buckets_of (length l.heads.items) l.entries.items) (olders_of l.entries.items) l.index;
  suffixes : all_hashed_of l.entries.items ≡ all_hashed_of l.fn.entries.items;
  long : length l.entries.items ≡ length l.fn.entries.items;
  capacity : vec_capacity l.entries ≡ vec_capacity l.fn.entries;
}

abbrev pub decreases-loop-index : goal.decreases-loop-index
decreases-loop-index l = length l.fn.entries.items - l.index
