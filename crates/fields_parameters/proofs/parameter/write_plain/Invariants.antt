use Rattle.std.proofs.Common.{take}
use Rattle.std.specs.Fmt.{WritesInCalls}
use Rattle.fields_parameters.proofs.parameter.write_plain.Given as goal

abbrev pub invariant-loop-octet : goal.invariant-loop-octet
invariant-loop-octet g l = WritesInCalls g.W.TextWriter.takes l.fn.f (take l.octet-index l.octets) l.f
