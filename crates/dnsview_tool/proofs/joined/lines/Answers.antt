use Rattle.std.proofs.Common.{◌∙◌, List, ◌∷◌, ap, ap₂, sym}
use Rattle.dnsview_rows.specs.declared.row.Row.{Row}
use Rattle.dnsview_tool.specs.Joined.{lines}
use Rattle.dnsview_tool.proofs.PageLines.{line_with, lines_done, lines_more}
use Rattle.dnsview_tool.proofs.joined.lines.Goals as goal

pub lines-preserved : goal.lines-preserved
lines-preserved c =
    let brief = c.args.is_brief in
    let first = c.in-Some.first.now in
    let cut = ap₂ (λ (sharing after : List Row). line_with first sharing ∷ lines brief after) (sym c.split_at.ensures.front) (sym c.split_at.ensures.back) in
    let left = ap (λ (rows : List Row). lines brief rows) c.in-Some.ensures.cases.0 ∙ c.count_sharing.ensures.line ∙ cut in
    lines_more brief c.lines.lines.items c.push.new.self.items _ c.lines.left.now c.split_at.result.1.now _ c.in_ok-push.ensures.items left c.lines.invariant

pub returns : goal.returns
returns c = lines_done c.args.is_brief c.lines.lines.items c.lines.left.now _ c.in_default.ensures.cases c.lines.invariant
