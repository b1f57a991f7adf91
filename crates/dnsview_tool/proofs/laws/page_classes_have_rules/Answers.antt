use Rattle.std.proofs.Common.{refl}
use Rattle.dnsview_tool.proofs.StyleRules.{colours_named, colours_ruled}
use Rattle.dnsview_tool.proofs.laws.page_classes_have_rules.Goals as goal

pub returns-clause-colours : goal.returns-clause-colours
returns-clause-colours c = colours_ruled

pub returns-clause-parts : goal.returns-clause-parts
returns-clause-parts c = (refl, refl, refl, refl)

pub returns-clause-legend : goal.returns-clause-legend
returns-clause-legend c = colours_named
