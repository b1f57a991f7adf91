use Rattle.std.proofs.Common.{ℕ, List, subst}
use Rattle.std.specs.Fmt.{WritesInCalls}
use Rattle.std.specs.Net.Text.{ipv4_text}
use Rattle.dns_data.proofs.print.write_address.Goals as goal

pub returns-clause-text : goal.returns-clause-text
returns-clause-text g c =
    λ ok. subst (λ (octets : List ℕ). WritesInCalls g.W.TextWriter.takes c.args.f.now (ipv4_text octets) c.write_ipv4.new.writer) c.octets.ensures (c.write_ipv4.ensures.text ok)
