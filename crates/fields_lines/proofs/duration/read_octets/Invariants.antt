use Rattle.std.proofs.Common.{◌≡◌, drop}
use Rattle.fields_lines.specs.Durations.{duration, duration_after}
use Rattle.fields_lines.proofs.duration.read_octets.Given as goal

-- the octets that are left decide
abbrev pub invariant-loop-octet : goal.invariant-loop-octet
invariant-loop-octet l = duration_after l.total l.number (drop l.octet-index l.octets) ≡ duration l.octets
