use Rattle.std.proofs.Common.{arith}
use Rattle.std.proofs.lemmas.Option.{IfSome_then}
use Rattle.dnsm_put.proofs.Hints.{hints_later}
use Rattle.dnsm_put.proofs.ItemsWritten.{holds_question}
use Rattle.dnsm_put.proofs.items.put_question.Goals as goal

pub returns-clause-holds : goal.returns-clause-holds
returns-clause-holds c = IfSome_then c.put_octets.result c.put_octets.ensures.put (λ end put x of.
    let l = c.put_name.ensures.length in
    holds_question c.put_name.new.out c.put_octets.new.out c.args.at c.in_ok-fields.fields end c.args.most c.question_fields_of.result c.args.item.now x of (omega arith)
    (c.in_ok-fields.ensures.named x.name of.is_question.name of.name) (omega arith) c.question_fields_of.ensures put)

pub returns-clause-hints : goal.returns-clause-hints
returns-clause-hints c = IfSome_then c.put_octets.result c.put_octets.ensures.put (λ end put h.
    let ends = put.ends in
    hints_later c.put_name.new.hints c.in_ok-fields.fields end (omega arith) (c.in_ok-fields.ensures.hints h))
