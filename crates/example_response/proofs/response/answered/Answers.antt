use Rattle.std.proofs.Common.{◌≡◌, ◌∙◌, ◌+◌, ◌≤◌, arith, length, map, subst}
use Rattle.std.specs.Prelude.{option_map}
use Rattle.dns_message.specs.Builders.{InAnswer, MovesState, Represents, fitting, gathered}
use Rattle.dns_message.specs.Messages.{message_octets}
use Rattle.dns_message.specs.Targets.{Tree}
use Rattle.example_response.specs.Answers.{is_authoritative, step_shown}
use Rattle.example_response.specs.Responses.{IsAnswered, IsEnded, IsEndedBy, IsReasonFor, reserved_for, started}
use Rattle.example_response.proofs.Answering.{answered_by, err_by, ok_by, refused_by, reserved_none, reserved_some}
use Rattle.example_response.proofs.response.answered.Goals.{else-is_some, then-is_some}
use Rattle.example_response.proofs.response.answered.Goals as goal

pub returns-in-Ok-filled-clause-ok : goal.returns-in-Ok-filled-clause-ok
returns-in-Ok-filled-clause-ok c =
    let zone = c.args.zone.now in
    let steps = map step_shown c.args.steps.now in
    let b = message_octets c.args.query.now in
    let old = c.in-Ok.response.0 in
    let opt = option_map gathered c.in-Ok.response.1 in
    let reserved = c.if-is_some.reserved in
    let limit : c.from.result ≡ c.args.limit = c.from.ensures in
    let starts = subst (λ aa. Represents InAnswer Tree (started c.args.rcode aa c.args.limit b) old) c.is_authoritative-authoritative.ensures c.in-Ok.ensures.state in
    let octets : reserved ≡ reserved_for opt =
    elim c.if-is_some.branch [
      | then-is_some w ↦ w.reserved-is ∙ reserved_some gathered c.in-Ok.response.1 (cc)
      | else-is_some w ↦ w.reserved-is ∙ reserved_none gathered c.in-Ok.response.1 (cc)
    ] in
    let fits = subst (λ n. MovesState InAnswer InAnswer Tree (fitting n reserved) old c.in-Ok-fit.builder.built) limit c.in-Ok-fit.ensures.fitting in
    let room : length old.written.octets + reserved ≤ c.args.limit = omega (arith, limit, c.in-Ok-fit.ensures.outcome.1) in
    ok_by (λ m. message_octets m) (IsEnded c.in-Ok-filled.builder opt) (IsAnswered zone c.args.rcode steps c.args.limit b)
    (answered_by zone c.args.rcode steps c.args.limit b old starts opt c.in-Ok.ensures.opt reserved octets c.in-Ok-fit.builder c.in-Ok-filled.builder c.in-Ok-fit.ensures.reserved fits room
    c.in-Ok-filled.ensures.reserved c.in-Ok-filled.ensures.filled)
    c.ended.result c.ended.ensures.ok

pub returns-in-Ok-filled-clause-err : goal.returns-in-Ok-filled-clause-err
returns-in-Ok-filled-clause-err c =
    let zone = c.args.zone.now in
    let steps = map step_shown c.args.steps.now in
    let b = message_octets c.args.query.now in
    let old = c.in-Ok.response.0 in
    let opt = option_map gathered c.in-Ok.response.1 in
    let reserved = c.if-is_some.reserved in
    let limit : c.from.result ≡ c.args.limit = c.from.ensures in
    let starts = subst (λ aa. Represents InAnswer Tree (started c.args.rcode aa c.args.limit b) old) c.is_authoritative-authoritative.ensures c.in-Ok.ensures.state in
    let octets : reserved ≡ reserved_for opt =
    elim c.if-is_some.branch [
      | then-is_some w ↦ w.reserved-is ∙ reserved_some gathered c.in-Ok.response.1 (cc)
      | else-is_some w ↦ w.reserved-is ∙ reserved_none gathered c.in-Ok.response.1 (cc)
    ] in
    let fits = subst (λ n. MovesState InAnswer InAnswer Tree (fitting n reserved) old c.in-Ok-fit.builder.built) limit c.in-Ok-fit.ensures.fitting in
    let room : length old.written.octets + reserved ≤ c.args.limit = omega (arith, limit, c.in-Ok-fit.ensures.outcome.1) in
    let small : c.args.limit ≤ 65535 = omega (arith, c.ranges.limit.fits) in
    err_by (IsEndedBy c.in-Ok-filled.builder opt) (IsReasonFor c.args.rcode (is_authoritative steps) c.args.limit b)
    (refused_by zone c.args.rcode steps c.args.limit b old starts opt c.in-Ok.ensures.opt reserved octets c.in-Ok-fit.builder c.in-Ok-filled.builder c.in-Ok-fit.ensures.reserved fits room
    c.in-Ok-filled.ensures.reserved c.in-Ok-filled.ensures.filled small)
    c.ended.result c.ended.ensures.err
