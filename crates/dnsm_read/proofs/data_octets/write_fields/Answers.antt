use Rattle.std.proofs.Common.{◌≡◌, ◌∷◌, [], rules}
use Rattle.fields_table.specs.FieldParts.{fields_left, named_part}
use Rattle.fields_records.specs.DataTexts.{data_fields}
use Rattle.dnsm_read.proofs.OctetWalks.{all_written, field_written, writing_begins}
use Rattle.dnsm_status.proofs.theory.PieceLemmas.{holds_as}
use Rattle.dnsm_read.proofs.data_octets.write_fields.Goals as goal

pub loop-field-init : goal.loop-field-init
loop-field-init c =
    let left : fields_left c.into_iter-field-iterator.result ≡ data_fields c.args.«data».now = search rules in
    record { can = tt; finite = tt; written = writing_begins _ _ _ left }

pub loop-field-preserved : goal.loop-field-preserved
loop-field-preserved c =
    let left : fields_left c.loop-field.field-iterator ≡ named_part c.in-Some.field ∷ fields_left c.next.new.self = search rules in
    record { can = tt; finite = tt; written = field_written _ _ _ _ _ _ _ _ left c.loop-field.invariant.written c.append_field-end.ensures }

pub returns : goal.returns
returns c =
    let none : fields_left c.loop-field.field-iterator ≡ [] = search rules in
    holds_as _ _ _ _ (c.fields_are_all.ensures c.args.«data».now) (all_written _ _ _ _ none c.loop-field.invariant.written)
