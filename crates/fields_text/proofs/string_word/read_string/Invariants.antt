use Rattle.std.proofs.Common.{length}
use Rattle.fields_text.proofs.StringSteps.{IsRead}
use Rattle.fields_text.specs.Strings.{unquoted}
use Rattle.fields_text.proofs.string_word.read_string.Given as goal

abbrev pub invariant-octets : goal.invariant-octets
invariant-octets l = IsRead (unquoted l.fn.word) l.octets.items l.left

abbrev pub decreases-octets : goal.decreases-octets
decreases-octets l = length l.left
