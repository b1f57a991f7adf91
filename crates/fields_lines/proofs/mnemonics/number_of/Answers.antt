use Rattle.std.proofs.Common.{sym, ◌∙◌}
use Rattle.fields_lines.proofs.MnemonicLemmas.{name_here, name_later, name_nowhere}
use Rattle.fields_lines.proofs.mnemonics.number_of.Goals as goal

pub returns-then-eq_ignore_ascii_case : goal.returns-then-eq_ignore_ascii_case
returns-then-eq_ignore_ascii_case c =
    name_here _ _ _ _ c.loop-number.invariant c.loop-number-test.true (c.eq_ignore_ascii_case.ensures.test.0 c.if-eq_ignore_ascii_case.true)

pub loop-number-preserved : goal.loop-number-preserved
loop-number-preserved c =
    name_later _ _ _ _ c.loop-number.invariant c.loop-number-test.true
    (λ e. let same = sym (c.eq_ignore_ascii_case.ensures.test.1 e) ∙ c.if-eq_ignore_ascii_case.false in cc same)

pub returns : goal.returns
returns c = name_nowhere _ _ _ c.loop-number.invariant c.loop-number-test.false
