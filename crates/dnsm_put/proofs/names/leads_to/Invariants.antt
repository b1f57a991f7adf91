use Rattle.std.proofs.Common.{◌≡◌}
use Rattle.dns_name.specs.Names.{Labels, IsName, uncompressed}
use Rattle.dnsm_put.proofs.Steps.{Reached}
use Rattle.dnsm_put.proofs.names.leads_to.Given as goal

abbrev pub invariant-loop-step : goal.invariant-loop-step
invariant-loop-step l = (n : Labels) → IsName n → l.name ≡ uncompressed n → Reached l.octets l.offset l.name n l.at l.i
