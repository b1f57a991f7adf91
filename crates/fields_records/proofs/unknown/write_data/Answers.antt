use Rattle.std.proofs.Common.{◌≡◌, ◌∷◌, List, ap, rules}
use Rattle.std.specs.List.{flat_map}
use Rattle.dns_data.specs.Printing.{hex_octet}
use Rattle.fields_table.specs.DataOrders.{part_octets}
use Rattle.fields_table.specs.FieldParts.{NamedPart, fields_left, named_part}
use Rattle.fields_records.proofs.OctetLemmas.{first_digits}
use Rattle.fields_text.proofs.theory.Printing.{none_printed, word_printed}
use Rattle.fields_records.specs.DataTexts.{data_fields}
use Rattle.fields_records.specs.FieldTexts.{fields_octets}
use Rattle.fields_records.proofs.unknown.write_data.Goals as goal

pub loop-field-init : goal.loop-field-init
loop-field-init g c =
    let left : fields_left c.into_iter-field-iterator.result ≡ data_fields c.args.«data».now = search rules in
    record { can = tt; finite = tt; printing = none_printed _ _ _ _ (ap (λ (fields : List NamedPart). flat_map hex_octet (fields_octets fields)) left) }

pub loop-field-preserved : goal.loop-field-preserved
loop-field-preserved g c =
    let left : fields_left c.loop-field.field-iterator ≡ named_part c.in-Some.field ∷ fields_left c.next.new.self = search rules in
    record {
      can = tt;
      finite = tt;
      printing =
          let word = c.write_field.ensures.text (search rules) in
          word_printed _ _ _ _ _ _ _ _ c.loop-field.invariant.printing word
          (first_digits (λ (field : NamedPart). part_octets field.part) (fields_left c.loop-field.field-iterator) (named_part c.in-Some.field) (fields_left c.next.new.self) left);
    }
