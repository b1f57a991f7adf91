use Rattle.example_transfer.proofs.Printing.{after_text}
use Rattle.example_transfer.proofs.print.print_whole.Goals as goal

pub returns : goal.returns
returns g c = after_text c.write_all-2.result _ _ _ _ _ c.in_ok-write_all.ensures.bytes c.write_all-2.ensures.bytes
