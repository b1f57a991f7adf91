use Rattle.std.proofs.Common.{◌≡◌, ◌∷◌, ◌++◌, List, ap, codes, rules}
use Rattle.std.specs.List.{flat_map}
use Rattle.fields_text.proofs.theory.Printing.{none_printed, word_printed}
use Rattle.fields_parameters.specs.ItemsLeft.{parameter_item, parameters_left}
use Rattle.fields_parameters.specs.ParameterItems.{ParameterItem, parameters_of}
use Rattle.fields_parameters.specs.Parameters.{parameter_word}
use Rattle.fields_parameters.proofs.parameter.write_parameters.Goals as goal

pub loop-parameter-init : goal.loop-parameter-init
loop-parameter-init g c =
    let left : parameters_left c.into_iter-parameter-iterator.result ≡ parameters_of c.args.octets.now = search rules in
    record { can = tt; finite = tt; printing = none_printed _ _ _ _ (ap (λ (items : List ParameterItem). flat_map (λ item. codes " " ++ parameter_word item) items) left) }

pub loop-parameter-preserved : goal.loop-parameter-preserved
loop-parameter-preserved g c =
    let left : parameters_left c.loop-parameter.parameter-iterator ≡ parameter_item c.in-Some.parameter ∷ parameters_left c.next.new.self = search rules in
    record {
      can = tt;
      finite = tt;
      printing =
          let word = c.write_next_parameter.ensures.text (search rules) in
          word_printed _ _ _ _ _ _ _ _ c.loop-parameter.invariant.printing word
          (ap (λ (items : List ParameterItem). flat_map (λ item. codes " " ++ parameter_word item) items) left);
    }
