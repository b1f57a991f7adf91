use Rattle.std.proofs.Common.{refl}
use Rattle.dns_print.proofs.theory.Prints.{print_one}
use Rattle.json_print.proofs.Escapes.{EscapedTakes}
use Rattle.json_print.proofs.escaped.EscapedTextWriter.write_text.Goals as goal

pub returns-clause-text : goal.returns-clause-text
returns-clause-text g c = λ ok. print_one (EscapedTakes g.T.TextWriter.takes) _ _ _ (c.write_escaped.ensures.text ok, refl)
