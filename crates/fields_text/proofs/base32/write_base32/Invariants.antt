use Rattle.std.proofs.Common.{length}
use Rattle.fields_text.specs.Base32.{base32_text}
use Rattle.fields_text.proofs.theory.Printing.{Printing}
use Rattle.fields_text.proofs.base32.write_base32.Given as goal

abbrev pub invariant-groups : goal.invariant-groups
invariant-groups g l = Printing g.W.TextWriter.takes l.fn.f l.f (base32_text l.left) (base32_text l.octets)

abbrev pub decreases-groups : goal.decreases-groups
decreases-groups g l = length l.left
