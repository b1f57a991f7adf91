use Rattle.std.proofs.Common.{◌∙◌, ap, refl}
use Rattle.dns_name.specs.Names.{uncompressed}
use Rattle.dns_name.specs.NameReading.{name_labels}
use Rattle.dns_name.proofs.theory.NameLemmas.{name_is}
use Rattle.dnsm_transfers.proofs.TransferLemmas.{asks_for}
use Rattle.dnsm_transfers.proofs.transfer.begin.Goals as goal

pub returns-clause-begins : goal.returns-clause-begins
returns-clause-begins c =
    let name = c.in-Ok.name in
    record {
      same_id = refl;
      same_class = refl;
      same_request = asks_for c.args.known c.is_some.result c.from.result c.unwrap_or.result c.is_some.ensures c.from.ensures c.unwrap_or.ensures;
      is_zone = (name_labels name, name_is name, c.in-Ok.ensures.name);
      same_zone = c.padded-len.ensures ∙ ap uncompressed c.as_parsed.ensures.labels ∙ c.in-Ok.ensures.name;
      nothing = refl;
      goes_on = refl;
    }
