-- The order of the sections of records in a message. RFC 1035 section 4.1.
use Rattle.std.specs.Prelude.{ℕ}
use Rattle.std.specs.Ordering.{on, nat_cmp}
use Rattle.std.specs.declared.cmp.Ordering.{Ordering}
use Rattle.dns_read.specs.declared.section.Section.{Section}
use Rattle.dns_read.specs.declared.section.Section.TheVariants.{Answer, Authority, Additional}

-- how many sections precede this one; the question section is the first
abbrev pub sections_before : Section → ℕ
sections_before Answer = 1
sections_before Authority = 2
sections_before Additional = 3

-- a section is less than another if fewer sections precede it
abbrev pub section_order : Section → Section → Ordering
section_order = on sections_before nat_cmp
