use Rattle.std.proofs.Common.{◌≡◌, ◌-◌, ◌≤◌, length, replicate}
use Rattle.dns_wire.specs.Encoders.{encode_octets}
use Rattle.dns_wire.specs.Targets.{Fits, append}
use Rattle.dns_build.proofs.zeros.append_zeros.Given as goal

abbrev pub invariant-loop-left : goal.invariant-loop-left
invariant-loop-left g l = record {
  few : l.left ≤ l.fn.count;
  zeros : g.T.Composer.written l.target ≡ append (encode_octets (replicate (l.fn.count - l.left) 0)) (g.T.Composer.written l.fn.target);
  fits : Fits g.T.Composer.capacity (length (g.T.Composer.written l.target).octets);
}

abbrev pub decreases-loop-left : goal.decreases-loop-left
decreases-loop-left g l = l.left
