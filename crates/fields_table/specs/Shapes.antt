-- How the kinds of fields are encoded.
use Rattle.std.specs.Prelude.{true, false}
use Rattle.fields_table.specs.declared.kind.Kind.{Kind}
use Rattle.fields_table.specs.declared.kind.Kind.TheVariants as kinds
use Rattle.fields_table.specs.declared.shape.Shape.{Shape}
use Rattle.fields_table.specs.declared.shape.Shape.TheVariants.{Octets, Counted, Sized, Name, UncompressedName, Rest}

abbrev pub shape_of : Kind → Shape
shape_of kinds.Number8 = Octets 1
shape_of kinds.Number16 = Octets 2
shape_of kinds.Number32 = Octets 4
shape_of kinds.Number48 = Octets 6
shape_of kinds.Number64 = Octets 8
shape_of kinds.SyncScheme = Octets 1
shape_of kinds.Seconds = Octets 4
shape_of kinds.Time = Octets 4
shape_of kinds.Ipv4 = Octets 4
shape_of kinds.Ipv6 = Octets 16
shape_of kinds.Eui48 = Octets 6
shape_of kinds.Eui64 = Octets 8
shape_of kinds.Locator64 = Octets 8
shape_of kinds.RecordType = Octets 2
shape_of kinds.CompressibleName = Name
shape_of kinds.PointedName = UncompressedName true true
shape_of kinds.LowercasedName = UncompressedName false true
shape_of kinds.PlainName = UncompressedName false false
shape_of kinds.CharacterString = Counted
shape_of kinds.Tag = Counted
shape_of kinds.Salt = Counted
shape_of kinds.Hash = Counted
shape_of kinds.SizedOctets = Sized
shape_of kinds.Strings = Rest
shape_of kinds.Text = Rest
shape_of kinds.Hexadecimal = Rest
shape_of kinds.Base64 = Rest
shape_of kinds.Base64OrHyphen = Rest
shape_of kinds.TypeBitMap = Rest
shape_of kinds.SmallTypeBitMap = Rest
shape_of kinds.ServiceParameters = Rest
shape_of kinds.AddressPrefixes = Rest
shape_of kinds.Location = Octets 16
shape_of kinds.GatewayAndKey = Rest
shape_of kinds.Relay = Rest
shape_of kinds.HostIdentity = Rest
shape_of kinds.Opaque = Rest
