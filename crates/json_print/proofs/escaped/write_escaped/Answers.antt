use Rattle.std.proofs.Common.{◌∙◌, ℕ, List, sym, subst}
use Rattle.std.specs.Fmt.{WritesInCalls}
use Rattle.json_print.proofs.Escapes.{escape-plain}
use Rattle.json_print.proofs.escaped.write_escaped.Goals as goal

pub returns-then-is_plain-clause-text : goal.returns-then-is_plain-clause-text
returns-then-is_plain-clause-text g c = λ ok.
    subst (λ (t : List ℕ). WritesInCalls g.T.TextWriter.takes c.args.writer.now t c.write_text.new.self)
    (sym (escape-plain c.args.text.now (sym c.is_plain.ensures ∙ c.if-is_plain.true))) (c.write_text.ensures.text ok)
