use Rattle.example_response.proofs.OriginLemmas.{records_are_from_zone}
use Rattle.example_response.proofs.laws.records_are_from_zone.Goals as goal

pub returns : goal.returns
returns c = records_are_from_zone c.within_is_suffix.ensures
