use Rattle.dns_regular.proofs.Layouts.{laid_out_has_names as law}
use Rattle.dns_regular.proofs.laws.laid_out_has_its_names.Goals as goal

pub returns : goal.returns
returns c = law
