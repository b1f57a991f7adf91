use Rattle.example_response.proofs.CaseLemmas.{authority_ends}
use Rattle.example_response.proofs.laws.authority_ends_at_cuts.Goals as goal

pub returns : goal.returns
returns c = authority_ends c.within_is_suffix.ensures
