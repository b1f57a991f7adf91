use Rattle.dnsview_tool.proofs.Viewed.{text_printed}
use Rattle.dnsview_tool.proofs.program.print_as_text.Goals as goal

pub returns : goal.returns
returns g c =
    let e = c.in_ok-rows.ensures in
    text_printed c.print_text.result c.args.message.now _ _ record { tiles = e.tiles; short = e.short; shows = e.shows } c.deref.ensures.value c.print_text.ensures
