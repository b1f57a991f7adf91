use Rattle.dnsm_read.proofs.theory.DataNameLemmas.{no_reason, one_data_name}
use Rattle.dnsm_read.proofs.laws.data_names_are_one.Goals as goal

pub returns-clause-one : goal.returns-clause-one
returns-clause-one c = λ b item index p q found other. one_data_name b item index p found q other

pub returns-clause-not_both : goal.returns-clause-not_both
returns-clause-not_both c = λ b item index p n found lacks. no_reason b item index p found n lacks
