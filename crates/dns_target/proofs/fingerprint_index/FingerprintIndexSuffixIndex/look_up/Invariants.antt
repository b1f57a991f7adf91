use Rattle.std.proofs.Common.{◌≡◌, ◌<◌, ◌-◌, drop}
use Rattle.dns_target.specs.FingerprintIndex.{table_entries_at, hash_of}
use Rattle.dns_target.specs.TableEntries.{table_in}
use Rattle.dns_wire.specs.Choice.{IsNew}
use Rattle.dns_target.proofs.fingerprint_index.FingerprintIndexSuffixIndex.look_up.Given as goal

abbrev pub invariant-loop-from : goal.invariant-loop-from
invariant-loop-from l = record {
  new : IsNew (table_in l.content (table_entries_at l.self.suffixes)) l.labels l.from;
  missed : 0 < l.from → l.missed ≡ hash_of (drop (l.from - 1) l.labels);
}
