use Rattle.dns_name.proofs.theory.Names as names
use Rattle.dns_name.proofs.laws.skipping_agrees.Goals as goal

pub returns : goal.returns
returns c = record { names_end = names.names_end; faults = names.skip_faults; ends_alike = names.ends_alike; fails_alike = names.fails_alike }
