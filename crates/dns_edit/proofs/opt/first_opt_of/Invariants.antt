use Rattle.std.proofs.Common.{◌≤◌, length}
use Rattle.dns_read.specs.Reading.{Skipped}
use Rattle.dns_edit.specs.Opt.{OtherAt}
use Rattle.dns_edit.proofs.opt.first_opt_of.Given as goal

abbrev pub invariant-loop-before : goal.invariant-loop-before
invariant-loop-before l = (l.pos ≤ length l.octets) × Skipped (OtherAt l.octets) l.before l.start l.pos
