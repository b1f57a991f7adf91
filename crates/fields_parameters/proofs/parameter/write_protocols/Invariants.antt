use Rattle.std.proofs.Common.{◌≡◌, true}
use Rattle.std.specs.Prelude.{codes}
use Rattle.fields_lists.specs.ItemsLeft.{strings_left}
use Rattle.fields_parameters.specs.Parameters.{protocols}
use Rattle.fields_parameters.proofs.PrintedProtocols.{are_bare}
use Rattle.fields_lists.proofs.theory.WordSteps.{Prints}
use Rattle.fields_parameters.proofs.parameter.write_protocols.Given as goal
use denote.Shadow.{shadow}
use denote.Text.{Utf8}

abbrev pub invariant-loop-name : goal.invariant-loop-name
invariant-loop-name g l =
    (goal.iterator-loop-name g).can_next l.name-iterator
    × (goal.iterator-loop-name g).is_finite l.name-iterator
    × shadow (Utf8 l.separator)
    × (are_bare (strings_left l.name-iterator) ≡ true)
    × Prints g.W.TextWriter.takes l.fn.f (protocols l.value) (codes ",") l.separator (strings_left l.name-iterator) l.f
