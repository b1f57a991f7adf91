use Rattle.dns_item.proofs.theory.EntryLemmas.{record_or_fault}
use Rattle.dnsm.proofs.zone.first_record.Goals as goal

pub unreachable-requires : goal.unreachable-requires
unreachable-requires c =
    let there = c.requires.2 in
    (record_or_fault c.args.octets.now).not_both 0 c.requires.0 there.entry _ there.reads c.in-Err.ensures.returned

pub returns-clause-reports : goal.returns-clause-reports
returns-clause-reports c =
    let found = c.in-Ok.ensures.returned in
    (found.0, (_, found.1), found.2)
