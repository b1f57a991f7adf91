use Rattle.std.proofs.Common.{ℕ, List, arith, subst, sym}
use Rattle.std.specs.Fmt.{WritesInCalls}
use Rattle.json_print.proofs.Escapes.{character_plain, control_escaped}
use Rattle.json_print.proofs.escaped.write_character.Goals as goal

pub returns-in-Some-clause-text : goal.returns-in-Some-clause-text
returns-in-Some-clause-text g c = λ ok.
    subst (λ (t : List ℕ). WritesInCalls g.T.TextWriter.takes c.args.writer.now t c.write_short.new.writer) (sym c.in-Some.ensures.short) (c.write_short.ensures.text ok)

pub overflow_cast-c : goal.overflow_cast-c
overflow_cast-c g c = omega (arith, c.if-c-lt32.true)

pub returns-then-c-lt32-clause-text : goal.returns-then-c-lt32-clause-text
returns-then-c-lt32-clause-text g c = λ ok.
    subst (λ (t : List ℕ). WritesInCalls g.T.TextWriter.takes c.args.writer.now t c.write_code.new.writer)
    (sym (control_escaped c.args.c c.if-c-lt32.true c.in_default.ensures.none)) (c.write_code.ensures.text ok)

pub returns-clause-text : goal.returns-clause-text
returns-clause-text g c = λ ok.
    subst (λ (t : List ℕ). WritesInCalls g.T.TextWriter.takes c.args.writer.now t c.write_char.new.self)
    (sym (character_plain c.args.c c.in_default.ensures.none c.if-c-lt32.false)) (c.write_char.ensures.text ok)
