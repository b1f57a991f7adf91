use Rattle.std.proofs.Common.{◌≡◌, drop}
use Rattle.dns_name.specs.Names.{with_root}
use Rattle.dns_name.specs.ParsedName.{labels_left, labels}
use Rattle.dns_name.proofs.compare.labels_after.Given as goal

abbrev pub invariant-loop-skipped : goal.invariant-loop-skipped
invariant-loop-skipped l = labels_left l.labels ≡ drop l._skipped (with_root (labels l.fn.name))
