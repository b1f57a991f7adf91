use Rattle.dns_build.proofs.OptReading.{opts_read_back}
use Rattle.dns_build.proofs.laws.opts_read_back.Goals as goal

pub returns : goal.returns
returns c = opts_read_back
