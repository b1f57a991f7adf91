use Rattle.std.proofs.Common.{length, take, ◌-◌, ◌≤◌}
use Rattle.dns_print.specs.Octets.{AllPlain}
use Rattle.dns_print.proofs.octets.plain_len.Given as goal

abbrev pub invariant-loop-len : goal.invariant-loop-len
invariant-loop-len g l = (l.len ≤ length l.octets) × AllPlain g.O.OctetText.text_of (take l.len l.octets)

abbrev pub decreases-loop-len : goal.decreases-loop-len
decreases-loop-len g l = length l.octets - l.len
