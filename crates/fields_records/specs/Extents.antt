-- How many words a field of a kind has.
use Rattle.fields_table.specs.declared.kind.Kind.{Kind}
use Rattle.fields_table.specs.declared.kind.Kind.TheVariants as kinds
use Rattle.fields_records.specs.declared.extent.Extent.{Extent}
use Rattle.fields_records.specs.declared.extent.Extent.TheVariants.{One, OneOrTwo, All}

-- one word; of sized octets one or two; and all words that are left if the field is several items, digits that may be split, or a form of several words
abbrev pub extent_of : Kind → Extent
extent_of kinds.SizedOctets = OneOrTwo
extent_of kinds.Strings = All
extent_of kinds.Hexadecimal = All
extent_of kinds.Base64 = All
extent_of kinds.Base64OrHyphen = All
extent_of kinds.TypeBitMap = All
extent_of kinds.SmallTypeBitMap = All
extent_of kinds.ServiceParameters = All
extent_of kinds.AddressPrefixes = All
extent_of kinds.Location = All
extent_of kinds.GatewayAndKey = All
extent_of kinds.Relay = All
extent_of kinds.HostIdentity = All
extent_of kinds.Opaque = All
extent_of kind = One
