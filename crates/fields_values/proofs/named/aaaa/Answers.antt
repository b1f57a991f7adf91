use Rattle.std.proofs.Common.{arith}
use Rattle.fields_values.proofs.NamedValues.{made_aaaa}
use Rattle.fields_values.proofs.named.aaaa.Goals as goal

pub returns : goal.returns
returns c = made_aaaa c.args.address c.from_values.result (omega arith) c.from_values.ensures
