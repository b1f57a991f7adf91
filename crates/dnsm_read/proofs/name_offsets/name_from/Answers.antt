use Rattle.std.proofs.Common.{arith}
use Rattle.dns_name.proofs.theory.Names.{not_both}
use Rattle.dnsm_read.proofs.NameWalks.{next_encoded, next_is, pass_begins, pass_ends, pass_on}
use Rattle.dnsm_read.proofs.theory.UncompressedLemmas.{ends_later}
use Rattle.dnsm_read.proofs.name_offsets.name_from.Goals as goal

pub names-init : goal.names-init
names-init c = pass_begins _ _ _ _ c.requires.0 c.requires.1

pub unreachable-requires : goal.unreachable-requires
unreachable-requires c =
    let there = next_encoded _ _ _ _ _ _ c.names.invariant c.names-test.true in
    let lacks = c.in_default.ensures.none in
    not_both c.args.octets.now c.names.offset there.0 lacks.0 there.1 lacks.1

pub returns-then-left-eq0 : goal.returns-then-left-eq0
returns-then-left-eq0 c = next_is _ _ _ _ _ _ c.names.invariant c.names-test.true (omega arith)

pub names-preserved : goal.names-preserved
names-preserved c = pass_on _ _ _ _ _ _ c.names.invariant _ _ c.names-test.true c.in-Ok.ensures.end (omega arith)

pub names-smaller : goal.names-smaller
names-smaller c = let later = ends_later c.in-Ok.ensures.end in omega (arith, later)

pub returns : goal.returns
returns c = pass_ends _ _ _ _ _ _ c.names.invariant (omega arith)
