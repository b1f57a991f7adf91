use Rattle.dns_print.proofs.theory.Prints.{print_one}
use Rattle.dns_print.proofs.writer.FmtFormatterTextWriter.write_text.Goals as goal

pub returns-clause-text : goal.returns-clause-text
returns-clause-text g c = λ ok. print_one _ _ _ _ (record { written = λ flush. c.write_str.ensures.styled flush ok })
