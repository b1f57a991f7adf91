use Rattle.std.proofs.Common.{length}
use Rattle.fields_forms.specs.HostIdentities.{servers_text}
use Rattle.fields_text.proofs.theory.Printing.{PrintingIfAll}
use Rattle.fields_forms.proofs.host_identity.write_servers.Given as goal

abbrev pub invariant-servers : goal.invariant-servers
invariant-servers g l = PrintingIfAll g.W.TextWriter.takes l.fn.f l.f (servers_text l.left) (servers_text l.octets)

abbrev pub decreases-servers : goal.decreases-servers
decreases-servers g l = length l.left
