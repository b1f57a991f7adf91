use Rattle.std.proofs.Common.{◌∙◌, sym}
use Rattle.std.proofs.lemmas.Bool.{eqb-true}
use Rattle.dns_edns.proofs.KindLemmas.{first_found}
use Rattle.dns_edns.proofs.options.OptionIter.first.Goals as goal

pub returns-then-eq : goal.returns-then-eq
returns-then-eq c = sym (first_found _ _ _ c.args.code c.in-Some.ensures.steps (eqb-true _ _ (sym c.eq.ensures ∙ c.if-eq.true))) ∙ c.loop-each.invariant
