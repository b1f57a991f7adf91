-- The header of an OPT record: the fields in its class and its TTL. RFC 6891 sections 6.1.2 and 6.1.3.
use Rattle.std.specs.Prelude.{ℕ, Bool, false, ◌+◌, ◌*◌, ◌/◌, ◌%◌, ◌==◌, if◌then◌else◌}
use Rattle.dns_edns.specs.declared.header.OptHeader.{OptHeader}

-- the fields: the UDP payload size in octets, the upper eight bits of the rcode, the version, DO, and the 15 bits Z
pub record OptFields : Type 0 where
  pub udp_payload_size : ℕ
  pub ext : ℕ
  pub version : ℕ
  pub dnssec_ok : Bool
  pub z : ℕ

-- The fields in a class and a TTL: the class is the payload size, and the TTL has 8, 8, 1 and 15 bits.
abbrev pub fields_in : ℕ → ℕ → OptFields
fields_in class ttl = record {
  udp_payload_size = class;
  ext = ttl / 16777216;
  version = ttl / 65536 % 256;
  dnssec_ok = ttl / 32768 % 2 == 1;
  z = ttl % 32768;
}

-- the TTL with these fields
abbrev pub ttl_in : OptFields → ℕ
ttl_in f = f.ext * 16777216 + f.version * 65536 + (if f.dnssec_ok then 32768 else 0) + f.z

-- the class and the TTL of a header
abbrev pub class_of : OptHeader → ℕ
class_of header = header.udp_payload_size

abbrev pub ttl_of : OptHeader → ℕ
ttl_of header = header.ttl

-- each field is 0, and DO is clear
abbrev pub no_fields : OptFields
no_fields = record { udp_payload_size = 0; ext = 0; version = 0; dnssec_ok = false; z = 0 }

-- the fields of a header
abbrev pub fields : OptHeader → OptFields
fields header = fields_in (class_of header) (ttl_of header)
