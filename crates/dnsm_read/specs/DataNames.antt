-- Names in the RDATA of an item. RFC 1035 sections 3.3 and 4.1.4.
pub use Rattle.dnsm_read.specs.DataFields.{data_end, up_to_data_end}
use Rattle.std.specs.Prelude.{◌≡◌, ◌⊎◌, ◌<◌, ℕ, List, sum_by}
use Rattle.dns_name.specs.Names.{Labels, NameAt}
use Rattle.dns_wire.specs.Parts.{Part}
use Rattle.fields_table.specs.Table.{Definition, definitions_of}
use Rattle.fields_table.specs.declared.kind.Kind.{Kind}
use Rattle.fields_table.specs.declared.kind.Kind.TheVariants.{CompressibleName, GatewayAndKey, HostIdentity, LowercasedName, PlainName, PointedName, Relay}
use Rattle.dnsm_status.specs.Codes.{number_of}
use Rattle.dnsm_read.specs.DataFields.{IsDataIn, LacksData, data_fields, data_type}
use Rattle.dnsm_read.specs.NameOffsets.{IsNameAmong, LacksNameAmong}
use Rattle.dnsm_status.specs.declared.code.CallError.TheVariants as faults
use Rattle.dnsm_read.specs.declared.walk.Item.{Item}

-- At most how many names a field of this kind has. RDATA has at most 65,535 octets. In a host identity four of them come before the servers, whose names take one octet at least.
abbrev pub most_names : Kind → ℕ
most_names CompressibleName = 1
most_names PointedName = 1
most_names LowercasedName = 1
most_names PlainName = 1
most_names GatewayAndKey = 1
most_names Relay = 1
most_names HostIdentity = 65531
most_names _ = 0

-- at most how many names these fields have
abbrev pub most_names_in : List Definition → ℕ
most_names_in fields = sum_by (λ field. most_names field.1) fields

-- some RDATA of the item's type has a name with this index
abbrev pub MayHaveName : Item → ℕ → Type 0
MayHaveName item index = index < most_names_in (definitions_of (data_type item))

-- Offset p is that of the name with this index among all names in the fields of an item's RDATA. The octets after the RDATA aren't read, neither for its fields nor where pointers lead.
pub record IsDataName (b : List ℕ) (item : Item) (index p : ℕ) : Type 0 where
  pub parts : List Part
  pub there : IsDataIn b item parts
  pub place : IsNameAmong (up_to_data_end b item) item.«data» (data_fields item parts) index p
  pub name : (name : Labels) × NameAt (up_to_data_end b item) p name

-- this is the name with this index
abbrev pub IsNameInData : List ℕ → Item → ℕ → Labels → Type 0
IsNameInData b item index name = (p : ℕ) × IsDataName b item index p × NameAt (up_to_data_end b item) p name

-- the fields of an item's RDATA have at most `index` names
abbrev pub HasFewNames : List ℕ → Item → ℕ → Type 0
HasFewNames b item index = (parts : List Part) × IsDataIn b item parts × LacksNameAmong (up_to_data_end b item) item.«data» (data_fields item parts) index

-- There is no such name, and the number says why: no RDATA of this type has one with this index, the item has no RDATA of its type, or its RDATA has fewer names.
abbrev pub LacksDataName : List ℕ → Item → ℕ → ℕ → Type 0
LacksDataName b item index n =
    ((MayHaveName item index → ⊥) × (n ≡ number_of faults.NoName))
    ⊎ ((MayHaveName item index × LacksData b item n) ⊎ (MayHaveName item index × HasFewNames b item index × (n ≡ number_of faults.NoName)))
