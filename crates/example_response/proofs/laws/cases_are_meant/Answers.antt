use Rattle.example_response.proofs.CaseLemmas.{cases_are_meant}
use Rattle.example_response.proofs.laws.cases_are_meant.Goals as goal

pub returns : goal.returns
returns c = cases_are_meant c.within_is_suffix.ensures
