use Rattle.std.proofs.Common.{◌≡◌}
use Rattle.std.specs.Prelude.{Some}
use Rattle.dns_item.specs.Question.{parsed_question}
use Rattle.dns_name.specs.ParsedName.{labels}
use Rattle.dns_read.specs.RecordSection.{records_left}
use Rattle.dns_reply.specs.Chains.{nth_name}
use Rattle.dns_reply.proofs.chain.chain_end.Given as goal

abbrev pub invariant-loop-name : goal.invariant-loop-name
invariant-loop-name l = nth_name (labels l.zone) (parsed_question l.question) (records_left l.answers) l._name ≡ Some (labels l.name, l.ttl)
