use Rattle.fields_values.proofs.NamedValues.{ptr_values, made_pointed}
use Rattle.fields_values.proofs.named.ptr.Goals as goal

pub returns : goal.returns
returns g c = made_pointed c.names_are_bounded.ensures 12 c.as_parsed.result _ c.from_values.result (ptr_values c.as_parsed.result) c.as_parsed.ensures.labels c.from_values.ensures
