use Rattle.std.proofs.Common.{◌∙◌, ℕ, List, ap}
use Rattle.dns_name.specs.NameReading.{name_labels}
use Rattle.dns_wire.specs.Encoders.{Plain}
use Rattle.dns_wire.specs.Targets.{append, with_empty_table}
use Rattle.dns_item.specs.Items.{encode_record}
use Rattle.dns_item.specs.Record.{record_item}
use Rattle.fields_table.specs.OwnedData.{owned_parts_of, owned_rtype_of}
use Rattle.dnsm_zone.proofs.LineLemmas.{alone_reads_back}
use Rattle.dnsm_zone.proofs.record.octets_of.Goals as goal

pub returns-clause-reads : goal.returns-clause-reads
returns-clause-reads c =
    let x = record_item name_labels owned_rtype_of owned_parts_of c.args.found.now in
    let written = c.in_ok-compose.ensures.composes.ok ∙ ap (λ (xs : List ℕ). append (encode_record Plain x) (with_empty_table xs)) c.new-octets.ensures.items in
    alone_reads_back x c.compose.new.target.items c.in_ok-compose.ensures.is_record written
