use Rattle.std.proofs.Common.{◌≡◌, ◌≤◌, arith, subst}
use Rattle.dns_message.specs.Messages.{message_octets}
use Rattle.example_response.specs.Responses.{IsReasonFor}
use Rattle.example_response.proofs.Starting.{not_started}
use Rattle.example_response.proofs.response.started.Goals as goal

pub returns-in-Err-clause-err : goal.returns-in-Err-clause-err
returns-in-Err-clause-err c =
    let b = message_octets c.args.query.now in
    let limit : c.from.result ≡ c.args.limit = c.from.ensures in
    let small : c.from.result ≤ 65535 = omega (arith, limit, c.ranges.limit.fits) in
    subst (λ n. IsReasonFor c.args.rcode c.args.authoritative n b c.in-Err.error) limit
    (not_started c.args.rcode c.args.authoritative c.from.result b small c.in-Err.error (c.in-Err.ensures.answer _ (c.set_push_limit.ensures _ c.in_ok-builder.ensures.fresh)))
