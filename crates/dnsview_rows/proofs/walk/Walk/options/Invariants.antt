use Rattle.std.proofs.Common.{◌-◌, ◌≡◌, length}
use Rattle.dnsview_rows.specs.Walks.{at, octets, Comes, CoversOptions}
use Rattle.dnsview_rows.proofs.walk.Walk.options.Given as goal

abbrev pub invariant-options : goal.invariant-options
invariant-options l = record {
  comes : Comes 0 l.fn.self l.self;
  sees : octets l.self ≡ octets l.fn.self;
  covers : CoversOptions l.fn.self l.self;
}

abbrev pub decreases-options : goal.decreases-options
decreases-options l = length (octets l.self) - at l.self
