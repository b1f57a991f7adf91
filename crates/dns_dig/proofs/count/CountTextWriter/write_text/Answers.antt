use Rattle.std.proofs.Common.{◌∙◌, ◌+◌, ap, length}
use Rattle.dns_print.proofs.theory.Prints.{print_one}
use Rattle.dns_dig.specs.Near.{near}
use Rattle.dns_dig.proofs.Counted.{CountTakes}
use Rattle.dns_dig.proofs.NearColumns.{near_near}
use Rattle.dns_dig.proofs.count.CountTextWriter.write_text.Goals as goal

pub returns-clause-text : goal.returns-clause-text
returns-clause-text c = λ ok. print_one CountTakes _ _ _ (ap near c.advanced-self.ensures.value ∙ near_near (c.args.self.now.0 + length c.args.text.now))
