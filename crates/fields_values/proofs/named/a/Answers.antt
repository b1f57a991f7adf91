use Rattle.std.proofs.Common.{arith}
use Rattle.fields_values.proofs.NamedValues.{made_a}
use Rattle.fields_values.proofs.named.a.Goals as goal

pub returns : goal.returns
returns c = made_a c.args.address c.from_values.result (omega arith) c.from_values.ensures
