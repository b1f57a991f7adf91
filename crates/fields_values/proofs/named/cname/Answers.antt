use Rattle.fields_values.proofs.NamedValues.{cname_values, made_pointed}
use Rattle.fields_values.proofs.named.cname.Goals as goal

pub returns : goal.returns
returns g c = made_pointed c.names_are_bounded.ensures 5 c.as_parsed.result _ c.from_values.result (cname_values c.as_parsed.result) c.as_parsed.ensures.labels c.from_values.ensures
