-- The address of an A record. RFC 1035 section 3.4.1.
use Rattle.std.specs.Prelude.{ℕ, List}
use Rattle.dns_data.specs.declared.a.A.{A}

-- the four octets of the address
abbrev pub address_of : A → List ℕ
address_of a = a.octets
