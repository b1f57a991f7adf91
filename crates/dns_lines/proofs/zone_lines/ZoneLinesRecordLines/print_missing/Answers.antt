use Rattle.dns_lines.proofs.zone_lines.ZoneLinesRecordLines.print_missing.Goals as goal

pub returns : goal.returns
returns g c = rw c.section_word-word.ensures at c.writeln.ensures.bytes
