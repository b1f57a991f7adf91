use Rattle.std.proofs.Common.{ℕ, List, sym, subst}
use Rattle.dnsm_put.specs.Writing.{HintsWithin}
use Rattle.dnsm_put.proofs.names.find_by_hash.Goals as goal

pub returns-then-hint-eq0-clause-hints : goal.returns-then-hint-eq0-clause-hints
returns-then-hint-eq0-clause-hints c = λ end low less h. c.keep.ensures end low less (subst (λ (hints : List ℕ). HintsWithin end hints) (sym c.loop-k.invariant) h)

pub returns-clause-hints : goal.returns-clause-hints
returns-clause-hints c = λ end low less h. c.keep-2.ensures end low less (subst (λ (hints : List ℕ). HintsWithin end hints) (sym c.loop-k.invariant) h)
