use Rattle.std.proofs.Common.{◌≡◌, ◌∷◌, ◌∙◌, ℕ, List, ap, sym, rules}
use Rattle.fields_checks.proofs.CheckLemmas.{number_step, octets_step}
use Rattle.fields_checks.specs.Checks.{field_values, last_number, last_octets, number_or, octets_or}
use Rattle.fields_table.specs.FieldParts.{fields_left, named_part}
use Rattle.fields_table.specs.Values.{FieldValue}
use Rattle.fields_checks.proofs.check.last_values.Goals as goal

pub loop-field-preserved : goal.loop-field-preserved
loop-field-preserved c =
    let old = fields_left c.loop-field.field-iterator in
    let rest = fields_left c.next.new.self in
    let item = named_part c.in-Some.field in
    let left : old ≡ item ∷ rest = search rules in
    record {
      can = tt;
      finite = tt;
      number =
          ap (λ (n : ℕ). last_number n (field_values rest))
          (c.number_or-number.ensures ∙ ap (λ (v : FieldValue). number_or v c.loop-field.number) c.value-value.ensures)
          ∙ sym (number_step c.loop-field.number old rest item left) ∙ c.loop-field.invariant.number;
      octets =
          ap (λ (o : List ℕ). last_octets o (field_values rest))
          (c.octets_or-octets.ensures ∙ ap (λ (v : FieldValue). octets_or v c.loop-field.octets.now) c.value-value.ensures)
          ∙ sym (octets_step c.loop-field.octets.now old rest item left) ∙ c.loop-field.invariant.octets;
    }
