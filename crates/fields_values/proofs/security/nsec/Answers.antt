use Rattle.fields_values.proofs.security.nsec.Goals as goal

pub returns : goal.returns
returns g c = (c.as_parsed.result, c.as_parsed.ensures.labels, c.from_values.ensures)
