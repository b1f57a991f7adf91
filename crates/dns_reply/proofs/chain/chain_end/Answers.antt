use Rattle.std.proofs.Common.{◌≡◌, ◌∙◌, ap, sym, subst, arith}
use Rattle.std.specs.Prelude.{Some}
use Rattle.dns_name.specs.ParsedName.{labels}
use Rattle.dns_name.specs.declared.parsed_name.ParsedName.{ParsedName}
use Rattle.dns_code.specs.Ttl.{most_seconds}
use Rattle.dns_item.specs.Question.{parsed_question}
use Rattle.dns_read.specs.RecordSection.{records_left}
use Rattle.dns_reply.specs.Chains.{nth_name}
use Rattle.dns_reply.specs.Chains.ChainEnds.{ends, goes_on}
use Rattle.dns_reply.proofs.ChainLemmas.{first_name, next_target}
use Rattle.dns_reply.proofs.chain.chain_end.Goals as goal

pub loop-name-init : goal.loop-name-init
loop-name-init c =
    first_name (labels c.args.zone.now) (parsed_question c.args.question.now) (records_left c.args.answers)
    ∙ ap (λ (name : ParsedName). Some (labels name, most_seconds)) (sym c.qname.ensures)

pub returns-in-None : goal.returns-in-None
returns-in-None c =
    ends c.loop-name._name (labels c.loop-name.name, c.loop-name.ttl) (omega arith) c.loop-name.invariant (sym c.in-None.ensures)

pub loop-name-preserved : goal.loop-name-preserved
loop-name-preserved c =
    rw c.min-ttl.ensures (
    next_target (labels c.args.zone.now) (parsed_question c.args.question.now) (records_left c.args.answers) c.loop-name._name
    (labels c.loop-name.name) (labels c.in-Some.target) c.loop-name.ttl c.in-Some.seconds c.loop-name.invariant c.in-Some.ensures)

pub returns : goal.returns
returns c =
    let all : c.loop-name._name ≡ 20 = omega arith in
    goes_on (labels c.loop-name.name, c.loop-name.ttl)
    (subst (λ i. nth_name (labels c.args.zone.now) (parsed_question c.args.question.now) (records_left c.args.answers) i ≡ Some (labels c.loop-name.name, c.loop-name.ttl)) all c.loop-name.invariant)
