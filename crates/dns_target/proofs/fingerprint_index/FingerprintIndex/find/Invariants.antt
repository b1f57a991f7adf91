use Rattle.std.proofs.Common.{drop}
use Rattle.dns_target.specs.TableEntries.{table_in}
use Rattle.dns_target.specs.FingerprintIndex.{table_entries_at}
use Rattle.dns_target.proofs.FingerprintLemmas.{IsBucketWalked}
use Rattle.dns_target.proofs.fingerprint_index.FingerprintIndex.find.Given as goal

abbrev pub invariant-loop-at : goal.invariant-loop-at
invariant-loop-at l = IsBucketWalked l.self-inside.heads.items l.content (table_in l.content (table_entries_at l.fn.self.suffixes)) (drop l.from l.labels) l.self-inside.entries.items l.hash l.at

abbrev pub decreases-loop-at : goal.decreases-loop-at
decreases-loop-at l = l.at
