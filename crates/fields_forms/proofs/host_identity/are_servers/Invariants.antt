use Rattle.std.proofs.Common.{◌≡◌, length}
use Rattle.std.specs.Prelude.{is_some}
use Rattle.fields_forms.specs.HostIdentities.{servers_text}
use Rattle.fields_forms.proofs.host_identity.are_servers.Given as goal

abbrev pub invariant-servers : goal.invariant-servers
invariant-servers l = is_some (servers_text l.octets) ≡ is_some (servers_text l.left)

abbrev pub decreases-servers : goal.decreases-servers
decreases-servers l = length l.left
