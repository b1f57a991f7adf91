use Rattle.std.specs.Prelude.{codes}
use Rattle.std.proofs.Common.{ap, refl, rules, lit<}
use Rattle.std.specs.Int.{from_be_bytes, w16}
use Rattle.fields_parameters.specs.Parameters.{key_word}
use Rattle.fields_text.proofs.theory.Printing.{none_printed}
use Rattle.fields_lists.proofs.theory.WordSteps.{group_printed, groups_end}
use Rattle.fields_parameters.proofs.parameter.write_keys.Goals as goal

pub keys-init : goal.keys-init
keys-init g c = (search rules, none_printed _ _ _ _ refl)

pub keys-preserved : goal.keys-preserved
keys-preserved g c = (
  search rules,
  (
      let first = c.write_text.ensures.text (search rules) in
      let second = c.write_key.ensures.text (search rules) in
      group_printed _ _ _ (codes ",") 2 (λ key. key_word (from_be_bytes w16 key)) _ _ _ _ _ _ _ _ (lit< tt) c.in-Some.ensures.cases
      (ap key_word c.from_be_bytes.ensures) c.keys.invariant.1 first second
      ),
)

pub returns-clause-text : goal.returns-clause-text
returns-clause-text g c = λ ok. groups_end _ _ _ (codes ",") 2 (λ key. key_word (from_be_bytes w16 key)) _ _ _ c.in_default.ensures.cases c.keys.invariant.1
