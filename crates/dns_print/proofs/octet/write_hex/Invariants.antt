use Rattle.std.proofs.Common.{◌≤◌, ◌-◌, length, take}
use Rattle.std.specs.Fmt.{WritesInCalls}
use Rattle.std.specs.List.{flat_map}
use Rattle.dns_print.specs.Digits.{hex_digits}
use Rattle.dns_print.proofs.octet.write_hex.Given as goal

abbrev pub invariant-loop-start : goal.invariant-loop-start
invariant-loop-start g l =
    (l.start ≤ length l.octets) × WritesInCalls g.T.TextWriter.takes l.fn.writer (flat_map (hex_digits l.upper) (take l.start l.octets)) l.writer

abbrev pub decreases-loop-start : goal.decreases-loop-start
decreases-loop-start g l = length l.octets - l.start
