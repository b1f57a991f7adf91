use Rattle.dnsview_tool.proofs.JoinedOctets.{joined_octets}
use Rattle.dnsview_tool.proofs.PageIds.{joined_tiles}
use Rattle.dnsview_tool.proofs.PageLines.{lines_have_rows}
use Rattle.dnsview_tool.proofs.laws.joined_rows_are_all.Goals as goal

pub returns-clause-octets : goal.returns-clause-octets
returns-clause-octets c = joined_octets

pub returns-clause-tiles : goal.returns-clause-tiles
returns-clause-tiles c = joined_tiles

pub returns-clause-rows : goal.returns-clause-rows
returns-clause-rows c = lines_have_rows
