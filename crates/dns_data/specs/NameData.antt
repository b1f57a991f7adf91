-- The fields of RDATA that is one name. RFC 1035 sections 3.3.1 and 3.3.11.
use Rattle.dns_data.specs.declared.name_data.Cname.{Cname}
use Rattle.dns_data.specs.declared.name_data.Ns.{Ns}

-- NSDNAME: the name of the name server
abbrev pub nsdname_of : {N : Type 0} → Ns N → N
nsdname_of ns = ns.nsdname

-- CNAME: the canonical name
abbrev pub cname_of : {N : Type 0} → Cname N → N
cname_of cname = cname.cname
