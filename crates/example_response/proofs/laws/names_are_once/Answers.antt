use Rattle.example_response.proofs.StepLemmas.{names_are_once}
use Rattle.example_response.proofs.laws.names_are_once.Goals as goal

pub returns : goal.returns
returns c = names_are_once
