use Rattle.std.proofs.Common.{length}
use Rattle.fields_text.proofs.StringSteps.{IsAppended}
use Rattle.fields_text.specs.Strings.{unquoted}
use Rattle.fields_text.proofs.string_word.push_string.Given as goal

abbrev pub invariant-octets : goal.invariant-octets
invariant-octets g l = IsAppended (unquoted l.fn.word) l.fn.octets.items l.octets.items l.left

abbrev pub decreases-octets : goal.decreases-octets
decreases-octets g l = length l.left
