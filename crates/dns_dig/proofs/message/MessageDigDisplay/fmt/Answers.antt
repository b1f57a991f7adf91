use Rattle.dns_print.proofs.theory.Prints.{printed_plain, printed_styled}
use Rattle.dns_dig.proofs.message.MessageDigDisplay.fmt.Goals as goal

pub returns-clause-writes : goal.returns-clause-writes
returns-clause-writes g c = λ plain ok. printed_plain _ _ _ _ (c.write_dig.ensures.text ok) plain

pub returns-clause-styled : goal.returns-clause-styled
returns-clause-styled g c = λ flush ok. printed_styled _ _ _ _ (c.write_dig.ensures.text ok) flush
