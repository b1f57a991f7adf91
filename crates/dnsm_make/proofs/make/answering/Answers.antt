use Rattle.std.proofs.Common.{◌≤◌, ℕ, List, length, ap, refl, subst, sym, arith}
use Rattle.dns_name.proofs.theory.NameLemmas.{parsed_is}
use Rattle.dns_name.specs.ParsedName.{labels}
use Rattle.dns_wire.specs.Encoders.{Static}
use Rattle.dns_wire.specs.Targets.{Written}
use Rattle.dns_item.specs.Items.{RecordItem}
use Rattle.dns_item.specs.Question.{parsed_question}
use Rattle.dns_build.specs.MessageOf.{IsMessageOf}
use Rattle.dns_build.specs.State.{encode}
use Rattle.dnsm_make.specs.Made.{answering}
use Rattle.dns_code.specs.Header.{fields}
use Rattle.dnsm_make.proofs.MadeLemmas.{address_item, answered_short, asked_short, is_message, never_refused}
use Rattle.dnsm_make.proofs.make.answering.Goals as goal

pub returns-in_err-push : goal.returns-in_err-push
returns-in_err-push c =
    let first = c.set_header.ensures _ c.in_ok-builder.ensures.fresh in
    let second = c.question-builder.ensures _ first in
    let e = c.in_err-push.ensures in
    absurd (never_refused c.in_err-push.field-0.0 _ _ _ (asked_short Static (fields c.args.header) _ (parsed_is c.args.question.qname)) refl (omega arith) (e.outcome.each _ second))

pub returns-in_err-push-2 : goal.returns-in_err-push-2
returns-in_err-push-2 c =
    let x = parsed_question c.args.question in
    let first = c.set_header.ensures _ c.in_ok-builder.ensures.fresh in
    let second = c.question-builder.ensures _ first in
    let third = c.in_ok-push.ensures.accepted _ second in
    let fourth = c.answer-builder.ensures _ third in
    let item = address_item x _ c.args.ttl _ c.args.address.now (ap labels c.qname.ensures) refl c.qclass.ensures c.from_secs.ensures refl c.address_of.ensures.value in
    let size = subst (λ (y : RecordItem). length (encode Static (answering (fields c.args.header) x y)).octets ≤ 512) (sym item)
    (answered_short (fields c.args.header) x c.args.ttl c.args.address.now c.address_of.ensures.four (parsed_is c.args.question.qname)) in
    let e = c.in_err-push-2.ensures in
    absurd (never_refused c.in_err-push-2.field-0.0 _ _ _ size refl (omega arith) (e.outcome.each _ fourth))

pub returns : goal.returns
returns c =
    let x = parsed_question c.args.question in
    let first = c.set_header.ensures _ c.in_ok-builder.ensures.fresh in
    let second = c.question-builder.ensures _ first in
    let third = c.in_ok-push.ensures.accepted _ second in
    let fourth = c.answer-builder.ensures _ third in
    let represents = c.in_ok-push-2.ensures.accepted _ fourth in
    let item = address_item x _ c.args.ttl _ c.args.address.now (ap labels c.qname.ensures) refl c.qclass.ensures c.from_secs.ensures refl c.address_of.ensures.value in
    let encoded = ap (λ (w : Written). w.octets) (c.finish.ensures.encode _ represents) in
    let sized = answered_short (fields c.args.header) x c.args.ttl c.args.address.now c.address_of.ensures.four (parsed_is c.args.question.qname) in
    let size = subst (λ (y : RecordItem). length (encode Static (answering (fields c.args.header) x y)).octets ≤ 512) (sym item) sized in (
      subst (λ (y : RecordItem). IsMessageOf Static (answering (fields c.args.header) x y) c.finish.result.octets) item (is_message Static _ c.finish.result.octets represents.state encoded),
      subst (λ (octets : List ℕ). length octets ≤ 512) (sym encoded) size,
    )
