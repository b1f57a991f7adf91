use Rattle.std.proofs.Common.{◌≡◌, [], length}
use Rattle.std.specs.Fmt.{WritesInCalls}
use Rattle.dns_read.specs.RecordSection.{records_left}
use Rattle.dns_dig.specs.Sections.{first_opt_text}
use Rattle.dns_dig.proofs.opt.write_first.Given as goal

-- nothing is printed yet, and the items that are left decide
abbrev pub invariant-loop-parsed : goal.invariant-loop-parsed
invariant-loop-parsed g l = record {
  wrote : WritesInCalls g.T.TextWriter.takes l.fn.writer [] l.writer;
  rest : first_opt_text (records_left l.records) ≡ first_opt_text (records_left l.fn.records);
}

abbrev pub decreases-loop-parsed : goal.decreases-loop-parsed
decreases-loop-parsed g l = length (records_left l.records)
