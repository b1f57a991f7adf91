use Rattle.std.proofs.Common.{drop}
use Rattle.fields_values.specs.NewValues.{AreStringsIn}
use Rattle.fields_values.proofs.ListSteps.{AreSame}
use Rattle.fields_values.proofs.lists.strings_refusal.Given as goal

abbrev pub invariant-loop-string : goal.invariant-loop-string
invariant-loop-string l = AreSame (AreStringsIn l.strings) (AreStringsIn (drop l.string-index l.strings))
