use Rattle.dns_build.proofs.FittedSets.{sets_are_fitted}
use Rattle.dns_build.proofs.laws.sets_are_fitted.Goals as goal

pub returns : goal.returns
returns c = sets_are_fitted
