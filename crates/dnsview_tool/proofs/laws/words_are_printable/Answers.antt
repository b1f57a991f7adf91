use Rattle.std.specs.Prelude.{string_bytes}
use Rattle.std.proofs.Common.{refl}
use Rattle.dnsview_tool.proofs.PrintableTexts.{named_in_line, unopened_in_line}
use Rattle.dnsview_tool.proofs.laws.words_are_printable.Goals as goal

pub returns-clause-texts : goal.returns-clause-texts
returns-clause-texts c = (refl, refl, refl)

pub returns-clause-arguments : goal.returns-clause-arguments
returns-clause-arguments c = λ word h. named_in_line (string_bytes word) h

pub returns-clause-unopened : goal.returns-clause-unopened
returns-clause-unopened c = unopened_in_line
