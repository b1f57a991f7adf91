use Rattle.std.proofs.Common.{◌≡◌, ◌∙◌, [], ◌∷◌, ap, sym, rules}
use Rattle.std.specs.Prelude.{codes}
use Rattle.std.specs.List.{list_all}
use Rattle.std.proofs.lemmas.Bool.{and_parts}
use Rattle.fields_lists.specs.ItemsLeft.{strings_left}
use Rattle.fields_parameters.specs.Parameters.{is_bare}
use Rattle.fields_text.specs.Separated.{separated}
use Rattle.fields_lists.specs.Strings.{strings_of}
use Rattle.fields_parameters.proofs.PrintedProtocols.{are_bare, protocols_bare}
use Rattle.fields_text.proofs.theory.Printing.{none_printed}
use Rattle.fields_lists.proofs.theory.WordSteps.{first_printed, words_end}
use Rattle.fields_parameters.proofs.parameter.write_protocols.Goals as goal

pub loop-name-init : goal.loop-name-init
loop-name-init g c =
    let all : strings_left c.into_iter-name-iterator.result ≡ strings_of c.args.value.now = ap strings_left c.into_iter-name-iterator.ensures.into_iter_gives ∙ c.new-name-items.ensures in (
      tt,
      tt,
      search rules,
      ap are_bare all ∙ protocols_bare c.args.value.now c.requires,
      none_printed _ _ _ _ (ap (separated [] (codes ",")) all),
    )

pub write_plain-requires : goal.write_plain-requires
write_plain-requires g c =
    let left : strings_left c.loop-name.name-iterator ≡ c.in-Some.name.now ∷ strings_left c.next.new.self = search rules in
    (and_parts (list_all is_bare c.in-Some.name.now) (are_bare (strings_left c.next.new.self)) (sym (ap are_bare left) ∙ c.loop-name.invariant.3)).0

pub loop-name-preserved : goal.loop-name-preserved
loop-name-preserved g c =
    let left : strings_left c.loop-name.name-iterator ≡ c.in-Some.name.now ∷ strings_left c.next.new.self = search rules in (
      tt,
      tt,
      search rules,
      (and_parts (list_all is_bare c.in-Some.name.now) (are_bare (strings_left c.next.new.self)) (sym (ap are_bare left) ∙ c.loop-name.invariant.3)).1,
      (
          let first = c.write_text.ensures.text (search rules) in
          let second = c.write_plain.ensures.text (search rules) in
          first_printed _ _ _ (codes ",") _ _ _ _ _ _ _ left c.loop-name.invariant.4 first second
          ),
    )

pub returns-clause-text : goal.returns-clause-text
returns-clause-text g c = λ ok. words_end _ _ _ (codes ",") _ _ _ c.in-None.ensures.steps.0 c.loop-name.invariant.4
