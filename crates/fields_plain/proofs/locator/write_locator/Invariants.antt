use Rattle.std.proofs.Common.{length}
use Rattle.fields_plain.specs.LocatorWords.{locator_text}
use Rattle.fields_text.proofs.theory.Printing.{Printing}
use Rattle.fields_plain.proofs.locator.write_locator.Given as goal

abbrev pub invariant-groups : goal.invariant-groups
invariant-groups g l = Printing g.W.TextWriter.takes l.fn.f l.f (locator_text l.left) (locator_text l.octets)

abbrev pub decreases-groups : goal.decreases-groups
decreases-groups g l = length l.left
