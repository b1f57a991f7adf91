use Rattle.std.proofs.Common.{ℕ, List, length}
use Rattle.std.specs.Prelude.{Bool}
use Rattle.fields_parameters.specs.ParameterValues.{AreHints}
use Rattle.fields_parameters.specs.PushedValues.{PushesValue}
use Rattle.fields_parameters.proofs.parameter_value.push_hints.Given as goal
use denote.Shadow.{shadow}
use denote.Text.{Utf8}

-- what appending the hints that are left returns, appending all returns
abbrev pub invariant-hints : goal.invariant-hints
invariant-hints g l = record {
  utf8 : shadow (Utf8 l.left);
  whole :
      (new : List ℕ) (pushed : Bool) → PushesValue g.row.N (AreHints l.key l.left) l.value.items new pushed
      → PushesValue g.row.N (AreHints l.key l.fn.text) l.fn.value.items new pushed;
}

abbrev pub decreases-hints : goal.decreases-hints
decreases-hints g l = length l.left
