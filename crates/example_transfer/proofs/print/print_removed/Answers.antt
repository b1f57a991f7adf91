use Rattle.dns_message.specs.Records.{encoded_record}
use Rattle.example_transfer.proofs.Printing.{removed_printed}
use Rattle.example_transfer.proofs.print.print_removed.Goals as goal

pub returns : goal.returns
returns g c = removed_printed (encoded_record c.args.record.now) c.print_record.result _ _ _ c.in_ok-write_all.ensures.bytes c.print_record.ensures
