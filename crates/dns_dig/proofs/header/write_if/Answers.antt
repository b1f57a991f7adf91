use Rattle.std.proofs.Common.{Bool, sym, subst}
use Rattle.std.specs.Fmt.{WritesInCalls}
use Rattle.dns_print.proofs.theory.Prints.{print_none}
use Rattle.dns_dig.specs.Header.{if_set}
use Rattle.dns_dig.proofs.header.write_if.Goals as goal

pub returns-then-flag-clause-text : goal.returns-then-flag-clause-text
returns-then-flag-clause-text g c = λ ok.
    subst (λ (b : Bool). WritesInCalls g.T.TextWriter.takes c.args.writer.now (if_set b c.args.text.now) c.write_text.new.self) (sym c.if-flag.true) (c.write_text.ensures.text ok)

pub returns-clause-text : goal.returns-clause-text
returns-clause-text g c = λ ok.
    subst (λ (b : Bool). WritesInCalls g.T.TextWriter.takes c.args.writer.now (if_set b c.args.text.now) c.args.writer.now) (sym c.if-flag.false) (print_none _ _)
