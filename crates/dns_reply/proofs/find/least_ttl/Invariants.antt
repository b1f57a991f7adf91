use Rattle.std.proofs.Common.{◌≡◌, length}
use Rattle.dns_item.specs.Question.{parsed_question}
use Rattle.dns_name.specs.ParsedName.{labels}
use Rattle.dns_read.specs.RecordSection.{records_left}
use Rattle.dns_reply.specs.Records.{asked_records, least_ttl}
use Rattle.dns_reply.proofs.find.least_ttl.Given as goal

abbrev pub invariant-loop-item : goal.invariant-loop-item
invariant-loop-item l =
    least_ttl l.least (asked_records (parsed_question l.question) (records_left l.answers) (labels l.name))
    ≡ least_ttl l.ttl (asked_records (parsed_question l.question) (records_left l.fn.answers) (labels l.name))

abbrev pub decreases-loop-item : goal.decreases-loop-item
decreases-loop-item l = length (records_left l.answers)
