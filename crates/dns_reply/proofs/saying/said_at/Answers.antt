use Rattle.std.proofs.Common.{[], ◌∷◌, ◌≡◌, ℕ, refl, subst, sym, true}
use Rattle.std.specs.Prelude.{None, Option, Some}
use Rattle.dns_item.specs.Question.{parsed_question, qclass_of}
use Rattle.dns_item.specs.Record.{data_of, record_item}
use Rattle.dns_name.specs.ParsedName.{labels}
use Rattle.dns_read.specs.RecordSection.{records_left}
use Rattle.dns_wire.specs.Parts.Part.{UncompressedName}
use Rattle.dns_reply.specs.Dname.{dname_target}
use Rattle.dns_reply.specs.Records.{dname_above, owns_asked}
use Rattle.dns_reply.specs.Replies.{said_of}
use Rattle.dns_reply.specs.Sayings.{SaysNone}
use Rattle.dns_reply.specs.Sayings.SaysAt.{answer, dname, none}
use Rattle.dns_reply.proofs.SayingLemmas.{answered, not_answered}
use Rattle.dns_reply.proofs.saying.said_at.Goals as goal

pub returns-then-is_answered : goal.returns-then-is_answered
returns-then-is_answered c =
    let owns = owns_asked (parsed_question c.args.question.now) (records_left c.args.answers) (labels c.args.name) in
    let both = answered c.args.rcode owns (sym c.if-is_answered.ensures) in
    rw c.least_ttl-ttl.ensures (answer both.0 both.1)

pub returns-in-Some : goal.returns-in-Some
returns-in-Some c =
    let owns = owns_asked (parsed_question c.args.question.now) (records_left c.args.answers) (labels c.args.name) in
    let found = record_item labels (λ _. 39) (λ d. UncompressedName true (labels (dname_target d)) ∷ []) c.in-Some.record in
    let above = subst (λ k. dname_above k (labels c.args.zone.now) (records_left c.args.answers) (labels c.args.name) ≡ Some found) c.qclass-qclass.ensures (sym c.in-Some.ensures) in
    rw (c.owner.ensures, c.target.ensures, c.data.ensures, c.min.ensures, c.as_secs.ensures, c.ttl.ensures)
    (dname found (labels (dname_target (data_of c.in-Some.record))) (not_answered c.args.rcode owns (sym c.if-is_answered.ensures)) above refl)

pub returns-in-None : goal.returns-in-None
returns-in-None c =
    let owns = owns_asked (parsed_question c.args.question.now) (records_left c.args.answers) (labels c.args.name) in
    let above = subst (λ k. dname_above k (labels c.args.zone.now) (records_left c.args.answers) (labels c.args.name) ≡ None) c.qclass-qclass.ensures (sym c.in-None.ensures) in
    let says = subst (λ k. SaysNone (records_left c.args.authorities) c.args.rcode k (labels c.args.zone.now) (labels c.args.name) c.ttl_of_aliases-alias_ttl.result (said_of c.said_none.result))
    c.qclass-qclass.ensures c.said_none.ensures in
    let says = subst (λ (a : Option ℕ). SaysNone (records_left c.args.authorities) c.args.rcode (qclass_of c.args.question.now) (labels c.args.zone.now)
    (labels c.args.name) a (said_of c.said_none.result)) c.ttl_of_aliases-alias_ttl.ensures says in
    none (not_answered c.args.rcode owns (sym c.if-is_answered.ensures)) above says
