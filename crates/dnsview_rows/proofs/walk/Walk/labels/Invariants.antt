use Rattle.std.proofs.Common.{◌≤◌, ◌-◌, length}
use Rattle.dns_name.specs.Names.{max_size}
use Rattle.dnsview_rows.specs.Walks.{at, octets, Comes, CoversLabels}
use Rattle.dnsview_rows.proofs.walk.Walk.labels.Given as goal

abbrev pub invariant-labels : goal.invariant-labels
invariant-labels l = record {
  comes : Comes 0 l.fn.self l.self;
  covers : CoversLabels l.fn.name l.size l.fn.self l.self;
  short : l.size ≤ max_size;
}

abbrev pub decreases-labels : goal.decreases-labels
decreases-labels l = length (octets l.self) - at l.self
