-- Records and record headers in canonical form: the owner is lowercased and uncompressed, and the RDATA is in canonical form. RFC 4034 section 6.2.
use Rattle.dns_name.specs.Names.{Labels, lowered, uncompressed}
use Rattle.dns_wire.specs.Encoders.{Rule, Encoder, encode_octets, both, with_length}
use Rattle.dns_wire.specs.Parts.{encode_parts}
use Rattle.dns_data.specs.RecordData.{canonical}
use Rattle.dns_item.specs.Items.{RecordItem, record_fields, HeaderEntry}
use Rattle.dns_item.specs.RecordHeader.{header_fields}

-- the octets of an uncompressed name, lowercased
abbrev pub encode_canonical_name : Labels → Encoder
encode_canonical_name name = encode_octets (uncompressed (lowered name))

-- a record: its owner, its fields, and the RDATA in canonical form after its RDLENGTH
unfoldable pub encode_canonical_record : Rule → RecordItem → Encoder
encode_canonical_record rule x = both (encode_canonical_name x.owner) (both (encode_octets (record_fields x)) (with_length (encode_parts rule (canonical x.parts))))

-- a header: its owner, and its fields
unfoldable pub encode_canonical_header : HeaderEntry → Encoder
encode_canonical_header x = both (encode_canonical_name x.owner) (encode_octets (header_fields x.rtype x.class x.ttl x.rdlen))
