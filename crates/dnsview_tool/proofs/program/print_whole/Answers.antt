use Rattle.dnsview_tool.proofs.Viewed.{form_flushed}
use Rattle.dnsview_tool.proofs.program.print_whole.Goals as goal

pub returns : goal.returns
returns g c = form_flushed c.flush.result c.args.form c.args.message.now _ _ _ c.in_ok-print_form.ensures c.flush.ensures.bytes
