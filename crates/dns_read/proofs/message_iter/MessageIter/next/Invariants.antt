use Rattle.std.proofs.Common.{◌≡◌}
use Rattle.std.specs.Prelude.{Some, IfSome}
use Rattle.dns_read.specs.MessageIter.{items_left, kept_error}
use Rattle.dns_read.proofs.MessageIterLemmas.{sections_left}
use Rattle.dns_read.proofs.PositionLemmas.{StaysAt}
use Rattle.dns_read.proofs.message_iter.MessageIter.next.Given as goal

abbrev pub invariant-loop-self : goal.invariant-loop-self
invariant-loop-self l = record {
  left : items_left l.self ≡ items_left l.fn.self;
  kept : IfSome (kept_error l.fn.self) (λ e. kept_error l.self ≡ Some e);
  stays : StaysAt l.fn.self l.self.cursor;
}

abbrev pub decreases-loop-self : goal.decreases-loop-self
decreases-loop-self l = sections_left l.self.cursor
