use Rattle.dns_print.proofs.theory.Prints.{displayed_plain, displayed_styled}
use Rattle.dns_data.proofs.print.NsDisplay.fmt.Goals as goal

pub returns-clause-writes : goal.returns-clause-writes
returns-clause-writes g c = rw (← c.nsdname.ensures) (displayed_plain _ _ _ _ _ c.write_absolute.ensures)

pub returns-clause-styled : goal.returns-clause-styled
returns-clause-styled g c = rw (← c.nsdname.ensures) (displayed_styled _ _ _ _ _ c.write_absolute.ensures)
