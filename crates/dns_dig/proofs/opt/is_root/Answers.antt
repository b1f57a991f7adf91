use Rattle.dns_dig.proofs.Choices.{root_is}
use Rattle.dns_dig.proofs.opt.is_root.Goals as goal

pub returns : goal.returns
returns c = root_is _ _ c.is_root.ensures
