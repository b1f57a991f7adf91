-- The field of DNAME RDATA. RFC 6672 section 2.1.
use Rattle.dns_name.specs.declared.parsed_name.ParsedName.{ParsedName}
use Rattle.dns_reply.specs.declared.dname.Dname.{Dname}

-- the target
abbrev pub dname_target : Dname → ParsedName
dname_target dname = dname.target
