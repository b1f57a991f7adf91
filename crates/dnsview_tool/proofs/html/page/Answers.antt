use Rattle.dnsview_tool.specs.Pages.{IsPageOf}
use Rattle.dnsview_tool.proofs.PageForms.{whole_text}
use Rattle.dnsview_tool.proofs.html.page.Goals as goal

pub returns : goal.returns
returns c = whole_text (IsPageOf c.args.is_brief c.args.message.now c.args.rows.now) c.new-page.result.items c.print_page_of.new.writer.items c.new-page.ensures.items c.in_ok-print_page_of.ensures
