use Rattle.std.proofs.Common.{◌≤◌, length}
use Rattle.dns_item.specs.Items.{SkipsRecord}
use Rattle.dns_read.specs.Reading.{Skipped}
use Rattle.dns_edit.proofs.MinLemmas.{Least}
use Rattle.dns_edit.proofs.walk.walk_records.Given as goal

abbrev pub invariant-loop-record : goal.invariant-loop-record
invariant-loop-record g l = (l.pos ≤ length l.octets) × Least l.octets l.start l._record l.pos l.least × Skipped (SkipsRecord l.octets) l._record l.start l.pos
