-- A host and its weight, by a number for private use (RFC 6895 section 3.1).
use Rattle.std.specs.Prelude.{false}
use Rattle.dns_message.specs.Data.{Layout, AtMost, Fixed, UncompressedDomainName, End}

-- A weight of 16 bits and a name. The name is never compressed, and keeps its letter case (RFC 3597 sections 4 and 7).
abbrev pub host_layout : Layout
host_layout = AtMost 65535 (Fixed 2 (UncompressedDomainName false false End))
