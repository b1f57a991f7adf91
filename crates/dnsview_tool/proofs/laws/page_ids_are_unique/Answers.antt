use Rattle.dnsview_tool.proofs.PageIds.{ids_differ}
use Rattle.dnsview_tool.proofs.laws.page_ids_are_unique.Goals as goal

pub returns : goal.returns
returns c = ids_differ
