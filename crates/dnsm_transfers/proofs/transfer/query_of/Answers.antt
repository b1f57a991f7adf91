use Rattle.std.proofs.Common.{◌≡◌, ◌∙◌, refl, subst, sym}
use Rattle.dns_name.specs.Names.{uncompressed}
use Rattle.dns_name.specs.NameReading.{name_labels}
use Rattle.dns_name.proofs.theory.NameLemmas.{name_is}
use Rattle.dnsm_transfers.specs.Transfers.{IsAskedBy, zone_octets}
use Rattle.dnsm_transfers.proofs.transfer.query_of.Goals as goal

pub returns-clause-query : goal.returns-clause-query
returns-clause-query c =
    let t = c.args.transfer.now in
    let zone = c.in-Ok.zone in
    let octets : uncompressed (name_labels zone) ≡ zone_octets t = c.in-Ok.ensures.name ∙ c.zone_of.ensures in
    subst (IsAskedBy t) (sym c.new.ensures) (record { is_name = name_is zone; zone = octets; class = c.from_int-class.ensures; id = refl; request = c.request_of.ensures })
