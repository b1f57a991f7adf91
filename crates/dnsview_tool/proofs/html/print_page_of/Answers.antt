use Rattle.std.proofs.Common.{◌∙◌, List, ap, map}
use Rattle.dnsview_tool.specs.Joined.{line_of}
use Rattle.dnsview_tool.specs.declared.joined.Line.{Line}
use Rattle.dnsview_tool.proofs.PageTexts.{page_printed}
use Rattle.dnsview_tool.proofs.Printables.{printable_same}
use Rattle.dnsview_tool.proofs.html.print_page_of.Goals as goal

pub returns : goal.returns
returns g c =
    let made = ap (λ (list : List Line). map line_of list) c.as_slice-lines.ensures.value ∙ c.in_ok-lines.ensures in
    page_printed c.write_all-2.result _ _ _ _ _ _ _ c.args.is_brief c.args.message.now c.args.rows.now c.as_slice-lines.result.now c.as_slice.result.now made
    (printable_same _ _ c.as_slice.ensures.value c.in_ok-words.ensures)
    c.in_ok-print_top.ensures c.in_ok-print_opening.ensures c.in_ok-print_cells.ensures c.in_ok-write_all.ensures.bytes c.in_ok-print_list.ensures c.write_all-2.ensures.bytes
