use Rattle.dns_dig.proofs.opt.is_opt_item.Goals as goal

pub is_opt-requires-clause-read : goal.is_opt-requires-clause-read
is_opt-requires-clause-read c = rw c.in-Ok.is at c.requires.read

pub is_opt-requires-clause-short : goal.is_opt-requires-clause-short
is_opt-requires-clause-short c = rw c.in-Ok.is at c.requires.short
