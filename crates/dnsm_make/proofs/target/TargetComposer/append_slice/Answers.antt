use Rattle.dnsm_make.proofs.LastNameLemmas.{octets_stay}
use Rattle.dnsm_make.proofs.target.TargetComposer.append_slice.Goals as goal

pub invariant_of-self : goal.invariant_of-self
invariant_of-self c = octets_stay _ _ _ _ _ c.append_slice.ensures c.self.invariant
