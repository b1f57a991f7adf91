use Rattle.dns_dig.proofs.message.print_dig.Goals as goal

pub returns : goal.returns
returns c = c.format.ensures.ok
