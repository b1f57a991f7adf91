use Rattle.std.proofs.Common.{arith}
use Rattle.dnsm_put.proofs.Responses.{number_octets}
use Rattle.dnsm_put.proofs.response.number_of.Goals as goal

pub returns : goal.returns
returns c = number_octets c.args.high c.args.low c.from_be_bytes.result (omega arith) (omega arith) c.from_be_bytes.ensures
