use Rattle.std.proofs.Common.{◌∙◌, ◌==◌, ℕ, List, length, ap, sym}
use Rattle.dnsview_tool.specs.Joined.{line_of}
use Rattle.dnsview_tool.proofs.PageTexts.{line_printed, no_cells}
use Rattle.dnsview_tool.proofs.html.print_line_cells.Goals as goal

pub returns-then-is_empty : goal.returns-then-is_empty
returns-then-is_empty g c =
    let none = sym (ap (λ (octets : List ℕ). length octets == 0) c.octets_of.ensures) ∙ sym c.is_empty.ensures ∙ c.if-is_empty.true in
    no_cells _ c.args.message.now (line_of c.args.line.now) c.row-row.result c.row-row.ensures none

pub returns : goal.returns
returns g c =
    let some = sym (ap (λ (octets : List ℕ). length octets == 0) c.octets_of.ensures) ∙ sym c.is_empty.ensures ∙ c.if-is_empty.false in
    line_printed c.write_all.result _ _ _ _ c.args.message.now (line_of c.args.line.now) c.row-row.result c.row-row.ensures some c.in_ok-print_row_cells.ensures
    c.in_ok-print_rows_cells.ensures c.write_all.ensures.bytes
