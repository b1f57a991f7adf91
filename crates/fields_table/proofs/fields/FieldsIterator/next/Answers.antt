use Rattle.std.proofs.Common.{length, ap, ◌∙◌, subst, arith, rules}
use Rattle.dns_name.specs.Names.{fault_of}
use Rattle.dns_name.specs.Parsers.{seen, offset}
use Rattle.fields_table.specs.EncodedFields.{part_of}
use Rattle.fields_table.specs.FieldParts.{fields_left}
use Rattle.fields_table.specs.declared.shape.Shape.{Shape}
use Rattle.fields_table.specs.Values.{HasSize}
use Rattle.fields_table.proofs.FieldLemmas.{has_size}
use Rattle.fields_table.proofs.Iterated.{never_faults, next_last, next_others, last_named, others_named}
use Rattle.fields_table.proofs.fields.FieldsIterator.next.Goals as goal
use Rattle.fields_table.proofs.fields.FieldsIterator.next.Goals.{in-Rest, in_default-shape}

pub invariant_of-item : goal.invariant_of-item
invariant_of-item c =
    let it = c.args.self.now in
    record {
      sized = subst (λ (s : Shape). HasSize s (part_of c.in-Ok.encoded)) c.shape-shape.ensures
          (has_size (seen it.parser) c.shape-shape.result _ (offset it.parser) (offset c.parse_field.new.parser) (part_of c.in-Ok.encoded) c.in-Ok.ensures.0);
    }

pub new-requires : goal.new-requires
new-requires c =
    let it = c.args.self.now in
    (next_last it.left.now _ c.in-len1-up.len_at_least c.shape-shape.result c.shape-shape.ensures it.parser it.encoded c.parse_field.new.parser
    (part_of c.in-Ok.encoded) c.in-Ok.ensures.0 c.in-Ok.ensures.1
    c.in-Rest.is).there

pub new-requires-in_default-shape : goal.new-requires-in_default-shape
new-requires-in_default-shape c =
    let it = c.args.self.now in
    (next_others it.left.now _ c.in-len1-up.len_at_least c.shape-shape.result c.shape-shape.ensures it.parser it.encoded c.parse_field.new.parser
    (part_of c.in-Ok.encoded) c.in-Ok.ensures.0 c.in-Ok.ensures.1
    c.in_default-shape.not-Rest).there

pub returns-clause-steps : goal.returns-clause-steps
returns-clause-steps c =
    let it = c.args.self.now in
    let part = part_of c.in-Ok.encoded in
    elim c.match-shape.branch [
      | in-Rest w ↦
          last_named it.left.now _ c.in-len1-up.len_at_least c.shape-shape.result c.shape-shape.ensures it.parser it.encoded c.parse_field.new.parser part
          c.in-Ok.ensures.0 c.in-Ok.ensures.1 w.in-Rest.is
          _ (ap fields_left w.self-is ∙ w.new.ensures)
      | in_default-shape w ↦
          others_named it.left.now _ c.in-len1-up.len_at_least c.shape-shape.result c.shape-shape.ensures it.parser it.encoded c.parse_field.new.parser part
          c.in-Ok.ensures.0 c.in-Ok.ensures.1 w.in_default-shape.not-Rest
          _ (ap fields_left w.self-is ∙ w.new-in_default-shape.ensures)
    ]

pub returns-in_default-parse_field-clause-steps : goal.returns-in_default-parse_field-clause-steps
returns-in_default-parse_field-clause-steps c =
    let it = c.args.self.now in
    absurd (never_faults it.left.now _ c.in-len1-up.len_at_least c.shape-shape.result c.shape-shape.ensures it.parser it.encoded
    (fault_of c.in_default-parse_field.field-0) c.in_default-parse_field.ensures)

pub returns-clause-goes : goal.returns-clause-goes
returns-clause-goes c =
    let shorter = ap length (returns-clause-steps c) in
    record { on = λ _. (tt, tt, search (rules, arith, shorter)); keeps = tt; rests = λ _. tt }
