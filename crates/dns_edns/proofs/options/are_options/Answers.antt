use Rattle.std.proofs.Common.{◌∙◌, sym}
use Rattle.dns_edns.proofs.theory.OptionsLemmas.{reported_after}
use Rattle.dns_edns.proofs.options.are_options.Goals as goal

pub loop-left-preserved : goal.loop-left-preserved
loop-left-preserved c = sym (reported_after _ _ _ c.in-Some.ensures) ∙ c.loop-left.invariant
