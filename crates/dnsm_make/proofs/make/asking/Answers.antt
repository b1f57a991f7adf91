use Rattle.std.proofs.Common.{◌≤◌, ℕ, List, length, ap, refl, subst, sym, arith}
use Rattle.dns_wire.specs.Encoders.{Plain}
use Rattle.dns_wire.specs.Targets.{Written}
use Rattle.dns_name.specs.Unique.{encoded_name}
use Rattle.dns_code.specs.Header.{fields}
use Rattle.dnsm_make.proofs.MadeLemmas.{asked_short, is_message, never_refused}
use Rattle.dnsm_make.proofs.make.asking.Goals as goal

pub returns-in_err-push : goal.returns-in_err-push
returns-in_err-push c =
    let first = c.set_header.ensures _ c.in_ok-builder.ensures.fresh in
    let second = c.question-builder.ensures _ first in
    let e = c.in_err-push.ensures in
    absurd (never_refused c.in_err-push.field-0.0 _ _ _ (asked_short Plain (fields c.args.header) _ (encoded_name c.args.name.whole.0.1)) refl (omega arith) (e.outcome.each _ second))

pub returns : goal.returns
returns c =
    let first = c.set_header.ensures _ c.in_ok-builder.ensures.fresh in
    let second = c.question-builder.ensures _ first in
    let represents = c.in_ok-push.ensures.accepted _ second in
    let encoded = ap (λ (w : Written). w.octets) (c.finish.ensures.encode _ represents) in
    let size = asked_short Plain (fields c.args.header) _ (encoded_name c.args.name.whole.0.1) in
    (is_message Plain _ c.finish.result.items represents.state encoded, subst (λ (octets : List ℕ). length octets ≤ 512) (sym encoded) size)
