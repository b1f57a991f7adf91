use Rattle.std.proofs.Common.{take}
use Rattle.std.specs.Fmt.{WritesInCalls}
use Rattle.std.specs.List.{flat_map}
use Rattle.fields_plain.specs.EuiTexts.{hyphen_pair}
use Rattle.fields_plain.proofs.eui.write_hyphen_pairs.Given as goal

abbrev pub invariant-loop-octet : goal.invariant-loop-octet
invariant-loop-octet g l = WritesInCalls g.W.TextWriter.takes l.fn.f (flat_map hyphen_pair (take l.octet-index l.octets)) l.f
