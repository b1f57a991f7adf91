use Rattle.dns_read.proofs.KeptErrorLemmas.{second_error_is_first}
use Rattle.dns_read.proofs.search_laws.second_error_is_first.Goals as goal

pub returns : goal.returns
returns c = second_error_is_first
