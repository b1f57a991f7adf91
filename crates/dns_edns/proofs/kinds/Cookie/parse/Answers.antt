use Rattle.std.proofs.Common.{◌≡◌, length, ap, ◌∙◌, arith, length-take-le}
use Rattle.dns_edns.proofs.KindLemmas.{server_read}
use Rattle.dns_edns.proofs.kinds.Cookie.parse.Goals as goal

pub returns-in-8-to-32 : goal.returns-in-8-to-32
returns-in-8-to-32 c =
    let cases = c.in-Some.ensures.cases in
    let eight : length c.in-Some.client.now ≡ 8 = ap length cases.0 ∙ length-take-le 8 c.args.octets.now (omega (arith, cases.2)) in
    server_read c.args.octets.now _ _ cases.0 cases.1 eight (omega arith, omega arith)
