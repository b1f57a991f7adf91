use Rattle.std.proofs.Common.{Bool, sym, subst}
use Rattle.std.specs.Fmt.{WritesInCalls}
use Rattle.dns_print.proofs.theory.Prints.{print_none}
use Rattle.dns_dig.specs.Lines.{end_text}
use Rattle.dns_dig.proofs.line.write_end.Goals as goal

pub returns-then-begun-clause-text : goal.returns-then-begun-clause-text
returns-then-begun-clause-text g c = λ ok.
    subst (λ (b : Bool). WritesInCalls g.T.TextWriter.takes c.args.writer.now (end_text b) c.write_text.new.self) (sym c.if-begun.true) (c.write_text.ensures.text ok)

pub returns-clause-text : goal.returns-clause-text
returns-clause-text g c = λ ok.
    subst (λ (b : Bool). WritesInCalls g.T.TextWriter.takes c.args.writer.now (end_text b) c.args.writer.now) (sym c.if-begun.false) (print_none _ _)
