use Rattle.std.proofs.Common.{List, ℕ, length, nat_lt, ◌++◌, ap}
use Rattle.dnsview_tool.specs.Pages.{ellipsis_text, escaped}
use Rattle.dnsview_tool.proofs.Appended.{printed_both, printed_same}
use Rattle.dnsview_tool.proofs.html.print_within.Goals as goal

pub returns : goal.returns
returns g c =
    let text = c.args.text.now in
    printed_same _ _ _ _ c.print_ellipsis.result (ap (λ (front : List ℕ). escaped front ++ ellipsis_text (nat_lt (length front) (length text))) c.front_within-front.ensures)
    (printed_both _ _ _ _ _ c.print_ellipsis.result c.in_ok-print_escaped.ensures c.print_ellipsis.ensures)
