use Rattle.dns_name.proofs.theory.NameTextFaults.{one_text_fault, text_name_or_fault_not_both, one_text_name, text_name_or_fault}
use Rattle.dns_name.proofs.PrintedNames.{printed_names_spell, dotted_names_spell}
use Rattle.dns_name.proofs.laws.names_as_texts.Goals as goal

pub returns-clause-some : goal.returns-clause-some
returns-clause-some c = text_name_or_fault

pub returns-clause-not_both : goal.returns-clause-not_both
returns-clause-not_both c = text_name_or_fault_not_both

pub returns-clause-one_name : goal.returns-clause-one_name
returns-clause-one_name c = one_text_name

pub returns-clause-one_fault : goal.returns-clause-one_fault
returns-clause-one_fault c = one_text_fault

pub returns-clause-printed : goal.returns-clause-printed
returns-clause-printed c = printed_names_spell

pub returns-clause-dotted : goal.returns-clause-dotted
returns-clause-dotted c = dotted_names_spell
