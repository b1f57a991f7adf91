-- What an iterator over a set of records has left. RFC 2181 section 5.
use Rattle.dns_name.specs.ParsedName.{labels}
use Rattle.dns_read.specs.RecordSection.{records_left}
use Rattle.dns_reply.specs.Records.{Records}
use Rattle.dns_reply.specs.RrsetMembers.{members}
use Rattle.dns_reply.specs.declared.rrset.Rrset.{Rrset}

-- what is left to yield
abbrev pub members_left : Rrset → Records
members_left set = members (labels set.owner) set.class set.rtype (records_left set.cursor)
