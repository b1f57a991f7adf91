use Rattle.dnsm_make.proofs.LastNameLemmas.{overwrite_stays}
use Rattle.dnsm_make.proofs.target.TargetComposer.write_at.Goals as goal

pub invariant_of-self : goal.invariant_of-self
invariant_of-self c = overwrite_stays c.self.inside.tree _ c.args.offset c.args.octets.now _ c.write_at.ensures c.self.invariant
