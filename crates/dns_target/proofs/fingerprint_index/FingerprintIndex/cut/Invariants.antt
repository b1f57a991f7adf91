use Rattle.std.proofs.Common.{◌≡◌, vec_len}
use Rattle.dns_target.specs.FingerprintIndex.{cut_hashed, all_hashed_of, IsLinked}
use Rattle.dns_target.proofs.fingerprint_index.FingerprintIndex.cut.Given as goal

abbrev pub invariant-loop-last : goal.invariant-loop-last
invariant-loop-last l = record {
  linked : IsLinked l.self-inside.heads.items l.self-inside.entries.items;
  same : cut_hashed l.len (all_hashed_of l.self-inside.entries.items) ≡ cut_hashed l.len l.fn.self.suffixes;
}

abbrev pub decreases-loop-last : goal.decreases-loop-last
decreases-loop-last l = vec_len l.self-inside.entries
