-- What a field of a kind takes as its value.
use Rattle.fields_table.specs.declared.kind.Kind.{Kind}
use Rattle.fields_table.specs.declared.kind.Kind.TheVariants as kinds
use Rattle.fields_values.specs.declared.form.Form.{Form}
use Rattle.fields_values.specs.declared.form.Form.TheVariants.{Number, RecordType, Ipv4, Ipv6, Eui48, Eui64, Locator64, Name, Counted, Sized, Location, Strings, Types, Parameters, Prefixes, Gateway, Relay, Identity, Rest}

abbrev pub value_form : Kind → Form
value_form kinds.Number8 = Number 1
value_form kinds.Number16 = Number 2
value_form kinds.Number32 = Number 4
value_form kinds.Seconds = Number 4
value_form kinds.Time = Number 4
value_form kinds.Number48 = Number 6
value_form kinds.Number64 = Number 8
value_form kinds.SyncScheme = Number 1
value_form kinds.RecordType = RecordType
value_form kinds.Ipv4 = Ipv4
value_form kinds.Ipv6 = Ipv6
value_form kinds.Eui48 = Eui48
value_form kinds.Eui64 = Eui64
value_form kinds.Locator64 = Locator64
value_form kinds.CompressibleName = Name
value_form kinds.PointedName = Name
value_form kinds.LowercasedName = Name
value_form kinds.PlainName = Name
value_form kinds.CharacterString = Counted
value_form kinds.Tag = Counted
value_form kinds.Salt = Counted
value_form kinds.Hash = Counted
value_form kinds.SizedOctets = Sized
value_form kinds.Location = Location
value_form kinds.Strings = Strings
value_form kinds.TypeBitMap = Types
value_form kinds.ServiceParameters = Parameters
value_form kinds.AddressPrefixes = Prefixes
value_form kinds.GatewayAndKey = Gateway
value_form kinds.Relay = Relay
value_form kinds.HostIdentity = Identity
value_form kind = Rest
