use Rattle.dns_name.proofs.theory.Names.{not_both}
use Rattle.dnsm_read.proofs.NameOffsetLemmas.{octets_encoded}
use Rattle.dnsm_read.proofs.name_offsets.name_within.Goals as goal

pub unreachable-requires : goal.unreachable-requires
unreachable-requires c =
    let found = c.in-Ok.ensures in
    let there = octets_encoded c.args.octets.now c.args.field.now.kind c.in-Octets.own.now c.args.start found.0 c.args.index c.in-Ok.offset found.1 found.2 in
    let lacks = c.in_default.ensures.none in
    not_both c.args.octets.now c.in-Ok.offset there.0 lacks.0 there.1 lacks.1
