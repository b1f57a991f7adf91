use Rattle.dnsview_tool.proofs.Printables.{printable_same}
use Rattle.dnsview_tool.proofs.failure.print_failure.Goals as goal

pub print_line-requires : goal.print_line-requires
print_line-requires g c = printable_same _ _ c.as_slice.ensures.value c.in-Ok.ensures
