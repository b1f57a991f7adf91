use Rattle.dns_item.specs.Question.{parsed_question}
use Rattle.dns_read.specs.Message.{message_octets}
use Rattle.dns_read.specs.Searches.{asked_first}
use Rattle.dns_reply.proofs.MatchLemmas.{same_case_told}
use Rattle.dns_reply.proofs.matching.same_case.Goals as goal

pub returns-in-Some-Some : goal.returns-in-Some-Some
returns-in-Some-Some g c =
    let told = rw (c.qname.ensures, c.qname-in-Some-Some.ensures) at c.octets_eq.ensures in
    same_case_told c.octets_eq.result (asked_first (message_octets c.args.received.now)) (asked_first (message_octets c.args.query.now)) (parsed_question c.in-Some-Some.question)
    (parsed_question c.in-Some-Some.asked) c.in-Some-Some.ensures c.in-Some-Some.ensures' told
