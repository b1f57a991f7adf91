-- RDATA as its uncompressed octets. RFC 1035 sections 3.3 and 4.1.4.
use Rattle.std.specs.Prelude.{◌≡◌, ◌≢◌, ℕ, ◌<◌, List, length}
use Rattle.dns_octets.specs.declared.error.TheConstants.FormError.{BAD_POINTER, TRAILING_DATA}
use Rattle.dns_name.specs.Names.{Fault}
use Rattle.dns_name.specs.Names.Fault.{Form}
use Rattle.dns_wire.specs.Parts.{Part}
use Rattle.dns_data.specs.Layout.{DataAt, DataFaultAt}
use Rattle.fields_table.specs.DataOrders.{octets_of_parts}
use Rattle.fields_table.specs.FieldData.{type_layout}

-- these are the parts of the fields of the type, which take all the octets, at most 65,535; and the octets are the parts uncompressed, so no name has a pointer
pub record IsUncompressedData (rtype : ℕ) (octets : List ℕ) (parts : List Part) : Type 0 where
  pub fields : DataAt octets (type_layout rtype) 0 (length octets) parts
  pub uncompressed : octets_of_parts parts ≡ octets

-- Why octets aren't such RDATA: the first fault in the fields; or octets are left over; or they are the fields, but not uncompressed.
pub data UncompressedDataFault (rtype : ℕ) (octets : List ℕ) : Fault → Type 0 where
  first : {f : Fault} → DataFaultAt octets (type_layout rtype) 0 f → UncompressedDataFault rtype octets f
  left_over : (q : ℕ) (parts : List Part) → DataAt octets (type_layout rtype) 0 q parts → q < length octets → UncompressedDataFault rtype octets (Form TRAILING_DATA)
  compressed : (parts : List Part) → DataAt octets (type_layout rtype) 0 (length octets) parts → octets_of_parts parts ≢ octets → UncompressedDataFault rtype octets (Form BAD_POINTER)
