use Rattle.dns_name.proofs.theory.Names as names
use Rattle.dns_name.proofs.laws.one_end_or_fault.Goals as goal

pub returns : goal.returns
returns c = record { some = names.end_or_skip_fault; not_both = names.end_not_both; one_end = names.one_end }
