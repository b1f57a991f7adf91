use Rattle.std.proofs.Common.{arith}
use Rattle.dns_name.proofs.theory.LabelsLemmas.{short_and_few}
use Rattle.dns_name.proofs.cached_name.CachedName.at.Goals as goal

pub overflow_cast-result-2 : goal.overflow_cast-result-2
overflow_cast-result-2 c = let n = short_and_few _ _ _ _ c.requires.encoded in omega (arith, n.1)
