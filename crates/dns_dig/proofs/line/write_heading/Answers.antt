use Rattle.std.proofs.Common.{Bool, [], sym, subst}
use Rattle.std.specs.Fmt.{WritesInCalls}
use Rattle.std.specs.Prelude.{if◌then◌else◌}
use Rattle.dns_print.proofs.theory.Prints.{print_none}
use Rattle.dns_dig.proofs.line.write_heading.Goals as goal

pub returns-then-begun-clause-text : goal.returns-then-begun-clause-text
returns-then-begun-clause-text g c = λ ok.
    subst (λ (b : Bool). WritesInCalls g.T.TextWriter.takes c.args.writer.now (if b then [] else c.args.heading.now) c.args.writer.now) (sym c.if-begun.true) (print_none _ _)

pub returns-clause-text : goal.returns-clause-text
returns-clause-text g c = λ ok.
    subst (λ (b : Bool). WritesInCalls g.T.TextWriter.takes c.args.writer.now (if b then [] else c.args.heading.now) c.write_text.new.self) (sym c.if-begun.false)
    (c.write_text.ensures.text ok)
