use Rattle.dns_message.specs.Records.{encoded_record}
use Rattle.example_transfer.proofs.Printing.{line_kept, with_kept}
use Rattle.example_transfer.proofs.print.print_begin.Goals as goal

pub returns-then-by_ixfr : goal.returns-then-by_ixfr
returns-then-by_ixfr g c = rw c.if-by_ixfr.true (line_kept (encoded_record c.args.soa.now) c.print_record.result _ _ _ c.clear.ensures.items c.print_record.ensures)

pub returns-else-by_ixfr : goal.returns-else-by_ixfr
returns-else-by_ixfr g c = rw c.if-by_ixfr.false (with_kept c.print_record-else-by_ixfr.result _ _ _ _ c.print_record-else-by_ixfr.ensures)
