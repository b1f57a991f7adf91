use Rattle.dns_read.specs.Message.{message_octets}
use Rattle.std.proofs.Common.{refl}
use Rattle.dnsm_read.proofs.WalkLemmas.{opened}
use Rattle.dnsm_read.proofs.walk.open.Goals as goal

pub returns-clause-opens : goal.returns-clause-opens
returns-clause-opens c =
    λ long. (
      refl,
      opened c.args.octets.now (message_octets c.in-Ok.message) c.header_of.result c.count_of.result c.in-Ok.ensures.octets c.header_of.ensures c.count_of.ensures long,
    )
