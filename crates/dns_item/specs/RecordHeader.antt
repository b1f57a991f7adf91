-- The fields of a record's header, and what parsing one returns. RFC 1035 section 4.1.3.
use Rattle.std.specs.Prelude.{◌≡◌, ℕ, ◌+◌, List, ◌++◌, Result, Ok, Err}
use Rattle.std.specs.Int.{to_be_bytes, w16, w32}
use Rattle.dns_name.specs.Names.{fault_of, Labels}
use Rattle.dns_name.specs.ParsedName.{labels}
use Rattle.dns_name.specs.Parsers.{seen, offset, number_at, MovesTo}
use Rattle.dns_wire.specs.Encoders.{Rule, Encoder, encode_octets, both, encode_name}
use Rattle.dns_octets.specs.declared.error.ParseError.{ParseError}
use Rattle.dns_name.specs.declared.parsed_name.ParsedName.{ParsedName}
use Rattle.dns_name.specs.declared.parser.Parser.{Parser}
use Rattle.dns_item.specs.Items.{HeaderEntry, ReadsHeader, HeaderFaultAt, RecordEntry, ReadsRecord, RecordFaultAt}
use Rattle.dns_item.specs.declared.record_header.RecordHeader.{RecordHeader}

-- the fields
abbrev pub owner_of : {N : Type 0} → RecordHeader N → N
owner_of header = header.owner

abbrev pub rtype_of : {N : Type 0} → RecordHeader N → ℕ
rtype_of header = header.rtype

abbrev pub class_of : {N : Type 0} → RecordHeader N → ℕ
class_of header = header.class

abbrev pub ttl_of : {N : Type 0} → RecordHeader N → ℕ
ttl_of header = header.ttl

abbrev pub rdlen_of : {N : Type 0} → RecordHeader N → ℕ
rdlen_of header = header.rdlen

-- a header as a value, with the labels of its owner
abbrev pub header_item : {N : Type 0} → (N → Labels) → RecordHeader N → HeaderEntry
header_item labels_of header =
    record { owner = labels_of (owner_of header); rtype = rtype_of header; class = class_of header; ttl = ttl_of header; rdlen = rdlen_of header }

-- a parsed header as a value
abbrev pub parsed_header : RecordHeader ParsedName → HeaderEntry
parsed_header = header_item labels

-- type, class, TTL and RDLENGTH, big-endian
abbrev pub header_fields : ℕ → ℕ → ℕ → ℕ → List ℕ
header_fields rtype class ttl rdlen = to_be_bytes w16 rtype ++ to_be_bytes w16 class ++ to_be_bytes w32 ttl ++ to_be_bytes w16 rdlen

-- the encoding of a header: its owner, and its fields
unfoldable pub encode_header : Rule → HeaderEntry → Encoder
encode_header rule x = both (encode_name rule x.owner) (encode_octets (header_fields x.rtype x.class x.ttl x.rdlen))

-- the record of a header whose RDATA begins at offset `start`
abbrev pub record_at : RecordHeader ParsedName → ℕ → RecordEntry
record_at header start =
    record {
      owner = labels (owner_of header);
      rtype = rtype_of header;
      class = class_of header;
      ttl = ttl_of header;
      rdata_start = start;
      rdata_end = start + rdlen_of header;
    }

-- What parsing returns: the header at the parser's offset, with the parser moved past it; or the fault there, and the parser doesn't move.
abbrev pub ParsesHeader : Parser → Parser → Result (RecordHeader ParsedName) ParseError → Type 0
ParsesHeader old new (Ok header) = ReadsHeader (seen old) (offset old) (offset new) (parsed_header header) × MovesTo old new (offset new)
ParsesHeader old new (Err e) = HeaderFaultAt (seen old) (offset old) (fault_of e) × (new ≡ old)

-- As `ParsesHeader`, with the parser after the header returned beside it.
abbrev pub ReadsAhead : Parser → Result (RecordHeader ParsedName × Parser) ParseError → Type 0
ReadsAhead parser (Ok (header, after)) = ParsesHeader parser after (Ok header)
ReadsAhead parser (Err e) = HeaderFaultAt (seen parser) (offset parser) (fault_of e)

-- As `ParsesHeader`, for a call that skips the RDATA too: the header is that of a record that can be read, and the parser moves past the record.
abbrev pub ParsesAndSkips : Parser → Parser → Result (RecordHeader ParsedName) ParseError → Type 0
ParsesAndSkips old new (Ok header) = ((start : ℕ) × ReadsRecord (seen old) (offset old) (offset new) (record_at header start)) × MovesTo old new (offset new)
ParsesAndSkips old new (Err e) = RecordFaultAt (seen old) (offset old) (fault_of e) × (new ≡ old)

-- the numbers at offset p, which is the end of an owner: type, class, TTL and RDLENGTH
pub record AreFieldsAt (b : List ℕ) (p type_field class_field ttl_field length_field : ℕ) : Type 0 where
  pub rtype : type_field ≡ number_at w16 b p
  pub class : class_field ≡ number_at w16 b (p + 2)
  pub ttl : ttl_field ≡ number_at w32 b (p + 4)
  pub rdlen : length_field ≡ number_at w16 b (p + 8)
