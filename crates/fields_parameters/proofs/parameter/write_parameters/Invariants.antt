use Rattle.std.proofs.Common.{codes, ◌++◌}
use Rattle.std.specs.List.{flat_map}
use Rattle.fields_text.proofs.theory.Printing.{Printing}
use Rattle.fields_parameters.specs.Parameters.{parameters_text, parameter_word}
use Rattle.fields_parameters.specs.ItemsLeft.{parameters_left}
use Rattle.fields_parameters.proofs.parameter.write_parameters.Given as goal

abbrev pub invariant-loop-parameter : goal.invariant-loop-parameter
invariant-loop-parameter g l = record {
  can : (goal.iterator-loop-parameter g).can_next l.parameter-iterator;
  finite : (goal.iterator-loop-parameter g).is_finite l.parameter-iterator;
  printing : Printing g.W.TextWriter.takes l.fn.f l.f (flat_map (λ item. codes " " ++ parameter_word item) (parameters_left l.parameter-iterator)) (parameters_text l.fn.octets);
}
