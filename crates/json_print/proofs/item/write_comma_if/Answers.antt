use Rattle.std.proofs.Common.{Bool, sym, subst}
use Rattle.std.specs.Fmt.{WritesInCalls}
use Rattle.dns_print.proofs.theory.Prints.{print_none}
use Rattle.json_print.specs.Texts.{comma_if}
use Rattle.json_print.proofs.item.write_comma_if.Goals as goal

pub returns-then-later-clause-text : goal.returns-then-later-clause-text
returns-then-later-clause-text g c = λ ok.
    subst (λ (b : Bool). WritesInCalls g.T.TextWriter.takes c.args.writer.now (comma_if b) c.write_text.new.self) (sym c.if-later.true) (c.write_text.ensures.text ok)

pub returns-clause-text : goal.returns-clause-text
returns-clause-text g c = λ ok.
    subst (λ (b : Bool). WritesInCalls g.T.TextWriter.takes c.args.writer.now (comma_if b) c.args.writer.now) (sym c.if-later.false) (print_none _ _)
