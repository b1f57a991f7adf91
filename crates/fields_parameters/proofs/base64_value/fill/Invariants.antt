use Rattle.std.proofs.Common.{◌≡◌, length}
use Rattle.fields_parameters.proofs.base64_value.fill.Given as goal

abbrev pub invariant-loop-count : goal.invariant-loop-count
invariant-loop-count g l = length l.value.items ≡ l._count
