use Rattle.example_response.proofs.NearestLemmas.{nearest_counts}
use Rattle.example_response.proofs.laws.nearest_counts.Goals as goal

pub returns : goal.returns
returns c = nearest_counts c.within_is_suffix.ensures
