-- The header section of a message: twelve octets, the header and then the counts. RFC 1035 section 4.1.1.
use Rattle.std.specs.Prelude.{ℕ, List, take, drop}
use Rattle.dns_code.specs.declared.header.Header.{Header}
use Rattle.dns_code.specs.declared.counts.HeaderCounts.{HeaderCounts}
use Rattle.dns_code.specs.declared.section.HeaderSection.{HeaderSection}

-- the number of octets of a header section
abbrev pub header_size : ℕ
header_size = 12

-- the twelve octets
abbrev pub section_octets : HeaderSection → List ℕ
section_octets s = s.octets

-- the header: the first four octets
abbrev pub section_header : HeaderSection → Header
section_header s = record { octets = take 4 (section_octets s) }

-- the counts: the following eight octets
abbrev pub section_counts : HeaderSection → HeaderCounts
section_counts s = record { octets = drop 4 (section_octets s) }
