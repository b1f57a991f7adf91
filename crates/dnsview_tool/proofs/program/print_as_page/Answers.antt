use Rattle.dnsview_tool.proofs.Viewed.{page_printed_of}
use Rattle.dnsview_tool.proofs.program.print_as_page.Goals as goal

pub returns : goal.returns
returns g c =
    let e = c.in_ok-rows.ensures in
    page_printed_of c.print_page.result c.args.message.now _ _ record { tiles = e.tiles; short = e.short; shows = e.shows } c.deref.ensures.value c.print_page.ensures
