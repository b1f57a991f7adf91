use Rattle.dns_edit.proofs.LaidOutLemmas.{rdata_laid_out_alike}
use Rattle.dns_edit.proofs.laws.rdata_laid_out_alike.Goals as goal

pub returns : goal.returns
returns c = rdata_laid_out_alike
