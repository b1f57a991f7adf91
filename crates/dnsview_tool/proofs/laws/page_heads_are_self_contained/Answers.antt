use Rattle.std.proofs.Common.{refl}
use Rattle.dnsview_tool.proofs.laws.page_heads_are_self_contained.Goals as goal

pub returns : goal.returns
returns c = (refl, refl, refl)
