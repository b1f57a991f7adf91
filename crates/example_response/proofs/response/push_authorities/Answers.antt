use Rattle.example_response.proofs.response.push_authorities.Goals as goal

pub returns-in-Delegated-clause-fits : goal.returns-in-Delegated-clause-fits
returns-in-Delegated-clause-fits c = rw c.in-Delegated.is (rw c.deref.ensures.value at c.push_set.ensures.fits)
