use Rattle.std.proofs.Common.{rules}
use Rattle.dns_dig.proofs.Pieces.{none_printed, next_printed, all_printed}
use Rattle.dns_dig.proofs.option.write_options.Goals as goal

pub loop-code-init : goal.loop-code-init
loop-code-init g c = none_printed _ _ _ _ _ (search rules)

pub loop-code-preserved : goal.loop-code-preserved
loop-code-preserved g c = next_printed _ _ _ _ _ _ _ _ _ c.loop-code.invariant c.in-Some.ensures.steps (c.write_option.ensures.text (search rules))

pub returns-clause-text : goal.returns-clause-text
returns-clause-text g c = λ ok. all_printed _ _ _ _ _ _ c.loop-code.invariant c.in-None.ensures.steps.0
