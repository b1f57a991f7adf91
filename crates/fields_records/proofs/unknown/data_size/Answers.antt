use Rattle.std.proofs.Common.{◌≡◌, ◌∷◌, arith, rules}
use Rattle.fields_table.specs.Data.{any_laid_out, parts_of, rtype_of}
use Rattle.fields_table.specs.FieldParts.{fields_left, named_part}
use Rattle.fields_table.specs.Table.{definitions_of}
use Rattle.fields_records.proofs.OctetLemmas.{fields_within, first_size}
use Rattle.fields_records.proofs.unknown.data_size.Goals as goal

pub overflow_add-size : goal.overflow_add-size
overflow_add-size c =
    let fields = c.args.«data».now in
    let left : fields_left c.loop-field.field-iterator ≡ named_part c.in-Some.field ∷ fields_left c.next.new.self = search rules in
    let first = first_size (fields_left c.loop-field.field-iterator) (named_part c.in-Some.field) (fields_left c.next.new.self) left in
    let within = fields_within (definitions_of (rtype_of fields)) (parts_of fields) in
    let short = (any_laid_out fields).0 in
    omega (arith, c.loop-field.invariant.size, c.size_of-size.ensures)
