use Rattle.std.proofs.Common.{◌≡◌, length}
use Rattle.std.specs.Prelude.{Ok, IfSome, option_map}
use Rattle.dns_item.specs.ParsedData.{HasSpan}
use Rattle.dns_item.specs.ParsedRecord.{encoded_record}
use Rattle.dns_read.specs.RecordSection.{records_left, record_result}
use Rattle.dns_read.specs.RecordSearches.{last_item}
use Rattle.dns_read.proofs.RecordSearchLemmas.{last_after}
use Rattle.dns_read.proofs.record_searches.last_of.Given as goal

abbrev pub invariant-loop-record : goal.invariant-loop-record
invariant-loop-record l =
    (last_after (option_map (λ r. record_result (Ok r)) l.last) (records_left l.section) ≡ last_item (records_left l.fn.section))
    × IfSome l.last (λ r. HasSpan (encoded_record r))

abbrev pub decreases-loop-record : goal.decreases-loop-record
decreases-loop-record l = length (records_left l.section)
