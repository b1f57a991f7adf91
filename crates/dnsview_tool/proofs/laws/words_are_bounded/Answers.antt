use Rattle.dnsview_tool.proofs.Fronts.{words_bounded}
use Rattle.dnsview_tool.proofs.laws.words_are_bounded.Goals as goal

pub returns : goal.returns
returns c = words_bounded
