-- A section starts after those before it.
use Rattle.std.proofs.Common.{ℕ}
use Rattle.dns_read.specs.declared.section.Section.{Section}
use Rattle.dns_read.specs.declared.section.Section.TheVariants.{Answer, Authority, Additional}
use Rattle.tests_plain.proofs.reading.+section_start.Given as goal

abbrev sections_before : Section → ℕ
sections_before Answer = 0
sections_before Authority = 1
sections_before Additional = 2

abbrev pub decreases-section_start : goal.decreases-section_start
decreases-section_start l = sections_before l.section
