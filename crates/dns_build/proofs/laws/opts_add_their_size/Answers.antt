use Rattle.dns_build.proofs.ReservedOptLemmas.{opts_add_their_size}
use Rattle.dns_build.proofs.laws.opts_add_their_size.Goals as goal

pub returns : goal.returns
returns c = opts_add_their_size
