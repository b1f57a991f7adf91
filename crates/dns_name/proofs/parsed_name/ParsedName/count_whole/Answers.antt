use Rattle.std.proofs.Common.{arith}
use Rattle.dns_name.proofs.theory.UncompressedNames.{counted_none, counted_begins, counted_root, counted_label}
use Rattle.dns_name.proofs.parsed_name.ParsedName.count_whole.Goals as goal

pub walk-init : goal.walk-init
walk-init c = counted_none _ c.requires

pub first-len-requires : goal.first-len-requires
first-len-requires c = counted_begins _ _ _ c.walk.invariant

pub returns-then-len-eq0 : goal.returns-then-len-eq0
returns-then-len-eq0 c = counted_root _ _ _ _ c.walk.invariant c.first-len.ensures.value c.if-len-eq0.true

pub walk-preserved : goal.walk-preserved
walk-preserved c = counted_label _ _ _ _ _ c.walk.invariant c.first-len.ensures.value c.if-len-eq0.false (omega (arith, c.from.ensures))
