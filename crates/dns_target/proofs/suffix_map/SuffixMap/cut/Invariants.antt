use Rattle.std.proofs.Common.{◌≡◌, vec_len}
use Rattle.dns_target.specs.HashIndex.{cut_suffixes, suffixes_of, IsTabled}
use Rattle.dns_target.proofs.suffix_map.SuffixMap.cut.Given as goal

abbrev pub invariant-loop-last : goal.invariant-loop-last
invariant-loop-last l = record {
  tabled : IsTabled l.self-inside.offsets l.self-inside.keys.items;
  same : cut_suffixes l.len (suffixes_of l.self-inside.offsets l.self-inside.keys.items) ≡ cut_suffixes l.len l.fn.self.suffixes;
}

abbrev pub decreases-loop-last : goal.decreases-loop-last
decreases-loop-last l = vec_len l.self-inside.keys
