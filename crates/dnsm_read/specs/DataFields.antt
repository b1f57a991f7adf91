-- The RDATA of an item, by the fields of its type. RFC 1035 sections 3.3 and 4.1.4.
use Rattle.std.specs.Prelude.{◌≡◌, ◌⊎◌, ◌<◌, ◌≤◌, ◌+◌, ℕ, List, length, take}
use Rattle.dns_name.specs.Names.{Fault}
use Rattle.dns_wire.specs.Parts.{Part}
use Rattle.dns_data.specs.Layout.{DataAt}
use Rattle.dns_item.specs.RecordReading.{WholeDataFaultAt}
use Rattle.fields_table.specs.FieldData.{type_layout}
use Rattle.fields_table.specs.FieldParts.{NamedPart, named_parts}
use Rattle.fields_table.specs.LayoutTypes.{layout_type}
use Rattle.fields_table.specs.Table.{definitions_of}
use Rattle.fields_table.specs.UncompressedData.{IsUncompressedData}
use Rattle.dnsm_status.specs.Codes.{number_of}
use Rattle.dnsm_status.specs.declared.code.CallError.TheVariants as faults
use Rattle.dnsm_read.specs.declared.walk.Item.{Item}

-- the offset after an item's RDATA
abbrev pub data_end : Item → ℕ
data_end item = item.«data» + item.data_len

-- the octets of the message up to the end of an item's RDATA
abbrev pub up_to_data_end : List ℕ → Item → List ℕ
up_to_data_end b item = take (data_end item) b

-- the type whose fields an item's RDATA has. RFC 2136 section 2.4
abbrev pub data_type : Item → ℕ
data_type item = layout_type item.class item.data_len item.rtype

-- The parts of an item's RDATA: the fields of its type take all its octets. The octets after the RDATA aren't read, neither for the fields nor where pointers lead.
pub record IsDataIn (b : List ℕ) (item : Item) (parts : List Part) : Type 0 where
  pub within : data_end item ≤ length b
  pub fields : DataAt (up_to_data_end b item) (type_layout (data_type item)) item.«data» (data_end item) parts

-- the fields of an item's RDATA with these parts, in order
abbrev pub data_fields : Item → List Part → List NamedPart
data_fields item parts = named_parts (definitions_of (data_type item)) parts

-- the octets from p to the end aren't RDATA of this type
abbrev pub IsNoRdata : List ℕ → ℕ → ℕ → Type 0
IsNoRdata b rtype p = (f : Fault) × WholeDataFaultAt b (type_layout rtype) p f

-- An item has no such RDATA, and the number says why: it isn't within the message, or it isn't RDATA of its type.
abbrev pub LacksData : List ℕ → Item → ℕ → Type 0
LacksData b item n =
    ((length b < data_end item) × (n ≡ number_of faults.ShortInput))
    ⊎ ((data_end item ≤ length b) × IsNoRdata (up_to_data_end b item) (data_type item) item.«data» × (n ≡ number_of faults.BadData))

-- The octets are an item's RDATA with its names uncompressed. In a new record of the item's class and type they have the same parts.
pub record UncompressesTo (b : List ℕ) (item : Item) (octets : List ℕ) : Type 0 where
  pub parts : List Part
  pub there : IsDataIn b item parts
  pub again : IsUncompressedData (layout_type item.class (length octets) item.rtype) octets parts
