use Rattle.std.proofs.Common.{◌≡◌, ◌∙◌, length, sym, arith}
use Rattle.dnsview_tool.proofs.PageLines.{first_line_of, sharing, sharing_all, sharing_none}
use Rattle.dnsview_tool.proofs.joined.count_sharing.Goals as goal

pub returns-then-not-shares_line-clause-line : goal.returns-then-not-shares_line-clause-line
returns-then-not-shares_line-clause-line c =
    let others = c.args.others.now in
    let none = sharing_none c.args.is_brief c.loop-index.last others c.loop-index.index _ c.loop-index-test.true (sym c.shares_line.ensures ∙ c.if-not-shares_line.true) in
    let found : c.loop-index.index ≡ sharing c.args.is_brief c.args.first.now others = omega (arith, none, c.loop-index.invariant) in
    first_line_of c.args.is_brief c.args.first.now others _ found

pub returns-clause-line : goal.returns-clause-line
returns-clause-line c =
    let others = c.args.others.now in
    let whole : length others ≡ sharing c.args.is_brief c.args.first.now others =
    omega (arith, sharing_all c.args.is_brief c.loop-index.last others c.loop-index.index c.loop-index-test.false, c.loop-index.invariant) in
    first_line_of c.args.is_brief c.args.first.now others _ whole
