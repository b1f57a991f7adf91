use Rattle.dns_print.proofs.theory.Prints.{displayed_plain, displayed_styled}
use Rattle.dns_item.proofs.record_error.RecordParseErrorDisplay.fmt.Goals as goal

pub returns-clause-writes : goal.returns-clause-writes
returns-clause-writes g c = displayed_plain _ _ _ _ _ c.write.ensures.text

pub returns-clause-styled : goal.returns-clause-styled
returns-clause-styled g c = displayed_styled _ _ _ _ _ c.write.ensures.text
