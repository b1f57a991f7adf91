use Rattle.dns_dig.proofs.PrintedOnce.{answer_lines, authority_lines, opt_printed, printed_once, signatures_printed}
use Rattle.dns_dig.proofs.laws.records_have_one_line.Goals as goal

pub returns-clause-sections : goal.returns-clause-sections
returns-clause-sections c = (answer_lines, authority_lines)

pub returns-clause-opt : goal.returns-clause-opt
returns-clause-opt c = opt_printed

pub returns-clause-signatures : goal.returns-clause-signatures
returns-clause-signatures c = signatures_printed

pub returns-clause-additional : goal.returns-clause-additional
returns-clause-additional c = printed_once
