use Rattle.dns_name.proofs.theory.Names as names
use Rattle.dns_name.proofs.laws.one_name_or_fault.Goals as goal

pub returns : goal.returns
returns c = record { some = names.name_or_fault; not_both = names.not_both; one_name = names.one_name; one_fault = names.one_fault }
