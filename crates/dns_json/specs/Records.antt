-- A record as a JSON object. RFC 8427 sections 2.2 and 2.3.
use Rattle.std.specs.Prelude.{ℕ, true, ◌-◌, ◌^◌, nat_lt, if◌then◌else◌, List, [], ◌∷◌, ◌++◌, length, Option, Some, None, option_and_then, codes, decimal}
use Rattle.std.specs.List.{flat_map}
use Rattle.json.specs.Json.{Json, number, string}
use Rattle.dns_print.specs.Digits.{hex_digits}
use Rattle.dns_wire.specs.Parts.{Part}
use Rattle.dns_item.specs.ParsedRecord.{EncodedRecord}
use Rattle.fields_table.specs.FieldData.{type_layout}
use Rattle.fields_table.specs.FieldParts.{named_parts}
use Rattle.fields_table.specs.Table.{definitions_of}
use Rattle.fields_records.specs.FieldTexts.{fields_text}
use Rattle.fields_plain.specs.TypeNames.{type_word}
use Rattle.dns_lines.specs.Show.{data_parts}
use Rattle.dns_lines.specs.ZoneLines.{rdata_octets}
use Rattle.json_print.specs.Values.{Member, numeral, object_of}
use Rattle.dns_json.specs.Header.{owner_members}

-- octets in hexadecimal digits, in uppercase (RFC 4648 section 8)
abbrev pub hex_text : List ℕ → List ℕ
hex_text octets = flat_map (hex_digits true) octets

-- a TTL: its 32 bits are a signed number
abbrev pub ttl_text : ℕ → List ℕ
ttl_text ttl = if nat_lt ttl (2 ^ 31) then decimal ttl else codes "-" ++ decimal (2 ^ 32 - ttl)

-- the octets of RDATA, as the message has them: pointers in them lead to octets of the message
abbrev pub rdata_members : List ℕ → List Member
rdata_members octets = (codes "RDLENGTH", numeral (length octets)) ∷ (codes "RDATAHEX", string (hex_text octets)) ∷ []

-- RDATA with these parts in presentation format; none if a field has none
abbrev pub presentation_of : ℕ → List Part → Option (List ℕ)
presentation_of rtype parts = fields_text [] (named_parts (definitions_of rtype) parts)

-- RDATA in presentation format; none if it is malformed, or its type isn't known
abbrev pub presentation : EncodedRecord → Option (List ℕ)
presentation x = option_and_then (presentation_of x.entry.rtype) (data_parts x (type_layout x.entry.rtype))

-- the name of the member for RDATA in presentation format, as rdataA or rdataMX
abbrev pub rdata_name : ℕ → List ℕ
rdata_name rtype = codes "rdata" ++ type_word rtype

-- the member for RDATA in presentation format, if it has one
abbrev pub text_members : ℕ → Option (List ℕ) → List Member
text_members rtype None = []
text_members rtype (Some text) = (rdata_name rtype, string text) ∷ []

-- the members of a record
abbrev pub record_members : EncodedRecord → List Member
record_members x =
    owner_members x.entry.owner x.entry.rtype x.entry.class
    ++ ((codes "TTL", number (ttl_text x.entry.ttl)) ∷ (rdata_members (rdata_octets x) ++ text_members x.entry.rtype (presentation x)))

-- a record as an object
abbrev pub record_json : EncodedRecord → Json
record_json x = object_of (record_members x)
