use Rattle.std.proofs.Common.{◌∙◌, ℕ, List, ap}
use Rattle.dns_wire.specs.Encoders.{Plain, nothing}
use Rattle.dns_wire.specs.Parts.{encode_parts}
use Rattle.dns_wire.specs.Targets.{Written, append, with_empty_table}
use Rattle.fields_table.specs.OwnedData.{owned_parts_of}
use Rattle.fields_table.proofs.theory.PartOctets.{plain_octets}
use Rattle.dnsm_zone.proofs.data.octets_of.Goals as goal

pub returns-clause-octets : goal.returns-clause-octets
returns-clause-octets c =
    let parts = owned_parts_of c.args.found.now in
    let written = c.in_ok-compose_rdata.ensures.composes.ok ∙ ap (λ (xs : List ℕ). append (encode_parts Plain parts) (with_empty_table xs)) c.new-octets.ensures.items in
    ap (λ (w : Written). w.octets) written ∙ plain_octets parts nothing 0
