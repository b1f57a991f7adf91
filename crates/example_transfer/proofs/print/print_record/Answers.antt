use Rattle.std.proofs.Common.{inr, refl}
use Rattle.dns_message.specs.Records.{encoded_record}
use Rattle.example_transfer.proofs.Printing.{fields_line, no_octets, on_printed, unknown_line}
use Rattle.example_transfer.proofs.print.print_record.Goals as goal

pub returns-in-Ok : goal.returns-in-Ok
returns-in-Ok g c =
    on_printed c.writeln.result _ _ _ _ (fields_line (encoded_record c.args.record.now) c.in-Ok.record (rw c.in-Ok.is at c.to_any_record.ensures.returned)) c.writeln.ensures.bytes

pub returns-in-Ok-to_any_record : goal.returns-in-Ok-to_any_record
returns-in-Ok-to_any_record g c =
    on_printed c.print_octets.result _ _ _ _
    (unknown_line (encoded_record c.args.record.now) _ _ c.in-Ok-to_any_record.record _ _ c.in_default.field-0
    (rw c.in_default.is at c.to_any_record.ensures.returned) (rw c.in-Ok-to_any_record.is at c.to_any_record-in_default.ensures.returned))
    c.print_octets.ensures

pub returns-in_default-to_any_record : goal.returns-in_default-to_any_record
returns-in_default-to_any_record g c =
    on_printed c.write_all.result _ _ _ _
    (inr (
      no_octets (encoded_record c.args.record.now) _ _ c.in_default-to_any_record.field-0
          (rw c.in_default-to_any_record.is at c.to_any_record-in_default.ensures.returned),
      refl,
    )) c.write_all.ensures.bytes
