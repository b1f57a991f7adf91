use Rattle.std.proofs.Common.{drop}
use Rattle.dns_target.specs.TableEntries.{table_in}
use Rattle.dns_target.specs.FingerprintIndex.{table_entries_at}
use Rattle.dns_target.proofs.FingerprintLemmas.{IsSuffixSought}
use Rattle.dns_target.proofs.fingerprint_index.FingerprintIndex.scan.Given as goal

abbrev pub invariant-loop-index : goal.invariant-loop-index
invariant-loop-index l = IsSuffixSought l.content (table_in l.content (table_entries_at l.fn.self.suffixes)) (drop l.from l.labels) l.self-inside.entries.items l.index

abbrev pub decreases-loop-index : goal.decreases-loop-index
decreases-loop-index l = l.index
