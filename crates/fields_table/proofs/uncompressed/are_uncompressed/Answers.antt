use Rattle.std.proofs.Common.{◌≡◌, ◌∷◌, [], sym, ◌∙◌, rules}
use Rattle.fields_table.specs.EncodedFields.{part_of}
use Rattle.fields_table.specs.FieldOrders.{parts_left}
use Rattle.fields_table.proofs.ComparedOctets.{all_compared, more_octets, none_compared, one_compared, other_field}
use Rattle.fields_table.proofs.uncompressed.are_uncompressed.Goals as goal

pub loop-field-init : goal.loop-field-init
loop-field-init c = record {
  can = tt;
  finite = tt;
  compared = none_compared _ _ _ _ (search rules) (search rules);
}

pub loop-field-preserved : goal.loop-field-preserved
loop-field-preserved c =
    let left : parts_left c.loop-field.field-iterator ≡ part_of c.in-Some.field.encoded ∷ parts_left c.next.new.self = search rules in
    record {
      can = tt;
      finite = tt;
      compared = one_compared _ _ _ _ _ _ left c.loop-field.invariant.compared _ c.in-Some-octets_after.ensures.after;
    }

pub returns-in_default-clause-other : goal.returns-in_default-clause-other
returns-in_default-clause-other c is =
    let left : parts_left c.loop-field.field-iterator ≡ part_of c.in-Some.field.encoded ∷ parts_left c.next.new.self = search rules in
    other_field _ _ _ _ _ _ left c.loop-field.invariant.compared (c.octets_after.ensures.other (search rules))

pub returns-clause-are : goal.returns-clause-are
returns-clause-are c is =
    let none : parts_left c.loop-field.field-iterator ≡ [] = search rules in
    all_compared _ _ _ _ none c.loop-field.invariant.compared (sym c.is_empty.ensures ∙ is)

pub returns-clause-other : goal.returns-clause-other
returns-clause-other c is =
    let none : parts_left c.loop-field.field-iterator ≡ [] = search rules in
    more_octets _ _ _ _ none c.loop-field.invariant.compared (sym c.is_empty.ensures ∙ is)
