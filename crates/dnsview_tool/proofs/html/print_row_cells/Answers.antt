use Rattle.std.proofs.Common.{◌<◌, ℕ, List, length, ap, arith}
use Rattle.dnsview_rows.specs.Rows.{row_octets}
use Rattle.dns_lines.proofs.theory.AppendedTexts.{appends_both}
use Rattle.dnsview_tool.proofs.Appended.{appends_same}
use Rattle.dnsview_tool.proofs.PageTexts.{cell_within, cells_more}
use Rattle.dnsview_tool.proofs.html.print_row_cells.Goals as goal

pub overflow_add-row : goal.overflow_add-row
overflow_add-row g c =
    let row = c.args.row.now in
    let i = c.loop-index.index in
    let within : i < length (row_octets c.args.message.now row) = omega (arith, c.loop-index-test.true, ap (λ (octets : List ℕ). length octets) c.octets_of-octets.ensures) in
    omega (arith, cell_within c.args.message.now row i within)

pub print_cell-requires : goal.print_cell-requires
print_cell-requires g c =
    let row = c.args.row.now in
    let i = c.loop-index.index in
    let within : i < length (row_octets c.args.message.now row) = omega (arith, c.loop-index-test.true, ap (λ (octets : List ℕ). length octets) c.octets_of-octets.ensures) in
    omega (arith, cell_within c.args.message.now row i within)

pub loop-index-preserved : goal.loop-index-preserved
loop-index-preserved g c =
    appends_same _ _ _ _ (cells_more c.args.message.now c.args.line.now c.args.row.now c.octets_of-octets.result.now c.loop-index.index c.loop-index-test.true)
    (appends_both _ _ _ _ _ c.loop-index.invariant c.in_ok-print_cell.ensures)
