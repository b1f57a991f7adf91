use Rattle.dns_dig.proofs.ZoneLines.{zone_lines}
use Rattle.dns_dig.proofs.laws.lines_are_zone_lines.Goals as goal

pub returns : goal.returns
returns c = zone_lines
