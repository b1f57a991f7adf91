use Rattle.std.proofs.Common.{◌≡◌, length}
use Rattle.dns_read.specs.RecordSection.{records_left}
use Rattle.dns_reply.specs.Opts.{opts_in}
use Rattle.dns_reply.proofs.opts.after_first.Given as goal

abbrev pub invariant-loop-item : goal.invariant-loop-item
invariant-loop-item l = opts_in (records_left l.additionals) ≡ opts_in (records_left l.fn.additionals)

abbrev pub decreases-loop-item : goal.decreases-loop-item
decreases-loop-item l = length (records_left l.additionals)
