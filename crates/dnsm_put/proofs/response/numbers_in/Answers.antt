use Rattle.dnsm_put.proofs.Responses.{same_fields}
use Rattle.dnsm_put.proofs.response.numbers_in.Goals as goal

pub returns : goal.returns
returns c = same_fields c.args.octets.now _ _ c.number_of-id.ensures c.number_of-flags.ensures
