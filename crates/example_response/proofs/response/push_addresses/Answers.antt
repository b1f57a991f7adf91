use Rattle.example_response.proofs.response.push_addresses.Goals as goal

pub returns-in-Some-clause-fits : goal.returns-in-Some-clause-fits
returns-in-Some-clause-fits c = rw c.in-Some.is (rw c.deref.ensures.value at c.push_set.ensures.fits)
