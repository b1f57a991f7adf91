use Rattle.std.proofs.Common.{◌∙◌, ℕ, List, sym, subst}
use Rattle.std.specs.Fmt.{WritesInCalls}
use Rattle.json_print.proofs.theory.JsonTexts.{boolean_text}
use Rattle.json_print.proofs.member.write_boolean.Goals as goal

pub returns-clause-text : goal.returns-clause-text
returns-clause-text g c = λ ok.
    subst (λ (t : List ℕ). WritesInCalls g.T.TextWriter.takes c.args.writer.now t c.write_text.new.self)
    (c.boolean_word.ensures ∙ sym (boolean_text c.args.value)) (c.write_text.ensures.text ok)
