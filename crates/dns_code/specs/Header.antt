-- The header of a message: four octets, and the fields in them. RFC 1035 section 4.1.1; AD and CD: RFC 4035 sections 3.2.2 and 3.2.3.
use Rattle.std.specs.Prelude.{ℕ, Bool, ◌+◌, ◌*◌, ◌^◌, ◌<◌, List, [], ◌∷◌, ◌++◌, slice_index}
use Rattle.std.specs.Int.{to_be_bytes, w16}
use Rattle.dns_code.specs.Bits.{bit, bits, one_bit, number_in}
use Rattle.dns_code.specs.declared.flags.Flags.{Flags}
use Rattle.dns_code.specs.declared.header.Header.{Header}

-- the fields of a header; the opcode and the rcode are numbers of four bits
pub record HeaderFields : Type 0 where
  pub id : ℕ
  pub qr : Bool
  pub opcode : ℕ
  pub aa : Bool
  pub tc : Bool
  pub rd : Bool
  pub ra : Bool
  pub z : Bool
  pub ad : Bool
  pub cd : Bool
  pub rcode : ℕ

-- The fields in the four octets of a header. Bit 7 of an octet is the most significant, which RFC 1035 draws first.
abbrev pub fields_in : List ℕ → HeaderFields
fields_in b = record {
  id = number_in b 0;
  qr = bit (slice_index b 2) 7;
  opcode = bits (slice_index b 2) 3 4;
  aa = bit (slice_index b 2) 2;
  tc = bit (slice_index b 2) 1;
  rd = bit (slice_index b 2) 0;
  ra = bit (slice_index b 3) 7;
  z = bit (slice_index b 3) 6;
  ad = bit (slice_index b 3) 5;
  cd = bit (slice_index b 3) 4;
  rcode = bits (slice_index b 3) 0 4;
}

-- fields that four octets can hold: the ID has 16 bits, the opcode and the rcode have four
pub record IsHeader (f : HeaderFields) : Type 0 where
  pub id : f.id < 2 ^ 16
  pub opcode : f.opcode < 2 ^ 4
  pub rcode : f.rcode < 2 ^ 4

-- the four octets with these fields
unfoldable pub octets_of_fields : HeaderFields → List ℕ
octets_of_fields f = to_be_bytes w16 f.id
    ++ (one_bit 7 f.qr + f.opcode * 2 ^ 3 + one_bit 2 f.aa + one_bit 1 f.tc + one_bit 0 f.rd)
    ∷ (one_bit 7 f.ra + one_bit 6 f.z + one_bit 5 f.ad + one_bit 4 f.cd + f.rcode) ∷ []

-- the four octets of a header
abbrev pub header_octets : Header → List ℕ
header_octets header = header.octets

-- the fields of a header
abbrev pub fields : Header → HeaderFields
fields header = fields_in (header_octets header)

-- the seven flags among the fields, without Z
abbrev pub flags_in : HeaderFields → Flags
flags_in f = record { qr = f.qr; aa = f.aa; tc = f.tc; rd = f.rd; ra = f.ra; ad = f.ad; cd = f.cd }
