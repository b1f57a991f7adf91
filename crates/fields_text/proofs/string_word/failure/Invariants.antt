use Rattle.std.proofs.Common.{ℕ, List, length}
use Rattle.fields_text.proofs.StringSteps.{IsRead}
use Rattle.fields_text.proofs.string_word.failure.Given as goal

abbrev pub invariant-octets : goal.invariant-octets
invariant-octets l = (octets : List ℕ) × IsRead l.fn.text octets l.left

abbrev pub decreases-octets : goal.decreases-octets
decreases-octets l = length l.left
