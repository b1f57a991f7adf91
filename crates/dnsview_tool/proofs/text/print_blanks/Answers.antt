use Rattle.std.proofs.Common.{◌≡◌, ◌-◌, ◌*◌, ap, arith}
use Rattle.dnsview_tool.proofs.Appended.{appends_same}
use Rattle.dnsview_tool.specs.Texts.{spaces}
use Rattle.dnsview_tool.proofs.text.print_blanks.Goals as goal

pub returns : goal.returns
returns g c =
    let count : 3 * (c.loop.counter - c.args.count) ≡ 3 * (8 - c.args.count) = omega arith in
    appends_same _ _ _ _ (ap spaces count) c.loop.invariant
