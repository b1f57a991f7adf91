use Rattle.std.proofs.Common.{drop}
use Rattle.fields_values.specs.NewValues.{AreStringsIn}
use Rattle.fields_values.proofs.ListSteps.{IsBetween}
use Rattle.fields_values.proofs.lists.push_strings.Given as goal

abbrev pub invariant-loop-string : goal.invariant-loop-string
invariant-loop-string l = IsBetween (AreStringsIn l.strings) (AreStringsIn (drop l.string-index l.strings)) l.fn.octets.items l.octets.items
