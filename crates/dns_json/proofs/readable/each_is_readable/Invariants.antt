use Rattle.std.proofs.Common.{◌≡◌, length}
use Rattle.std.specs.List.{list_all}
use Rattle.std.specs.Prelude.{is_ok}
use Rattle.dns_read.specs.RecordSection.{records_left}
use Rattle.dns_json.proofs.readable.each_is_readable.Given as goal

abbrev pub invariant-loop-parsed : goal.invariant-loop-parsed
invariant-loop-parsed l = list_all is_ok (records_left l.fn.records) ≡ list_all is_ok (records_left l.records)

abbrev pub decreases-loop-parsed : goal.decreases-loop-parsed
decreases-loop-parsed l = length (records_left l.records)
