use Rattle.std.proofs.Common.{take}
use Rattle.std.specs.Fmt.{WritesInCalls}
use Rattle.std.specs.List.{flat_map}
use Rattle.dns_dig.specs.OptionTexts.{spaced_digits}
use Rattle.dns_dig.proofs.value.write_spaced_digits.Given as goal

abbrev pub invariant-loop-octet : goal.invariant-loop-octet
invariant-loop-octet g l = WritesInCalls g.T.TextWriter.takes l.fn.writer (flat_map spaced_digits (take l.octet-index l.octets)) l.writer
