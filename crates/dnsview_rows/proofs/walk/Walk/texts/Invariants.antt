use Rattle.std.proofs.Common.{◌-◌, ◌≡◌, length}
use Rattle.dnsview_rows.specs.Walks.{at, octets, Comes, CoversTexts}
use Rattle.dnsview_rows.proofs.walk.Walk.texts.Given as goal

abbrev pub invariant-texts : goal.invariant-texts
invariant-texts l = record {
  comes : Comes 0 l.fn.self l.self;
  sees : octets l.self ≡ octets l.fn.self;
  covers : CoversTexts l.fn.self l.self;
}

abbrev pub decreases-texts : goal.decreases-texts
decreases-texts l = length (octets l.self) - at l.self
