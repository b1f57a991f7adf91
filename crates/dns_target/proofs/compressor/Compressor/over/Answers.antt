use Rattle.dns_target.proofs.EntryStates.{entries_new}
use Rattle.dns_target.proofs.compressor.Compressor.over.Goals as goal

pub invariant_of-result : goal.invariant_of-result
invariant_of-result g c = (entries_new _ _ _ c.requires.plain c.requires.empty, c.requires.is_of _)
