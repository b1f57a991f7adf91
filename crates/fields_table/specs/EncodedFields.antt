-- What reading a field returns.
use Rattle.std.specs.Prelude.{Result, Ok, Err}
use Rattle.dns_octets.specs.declared.error.ParseError.{ParseError}
use Rattle.dns_name.specs.Names.{fault_of}
use Rattle.dns_name.specs.Parsers.{seen, offset, MovesTo}
use Rattle.dns_name.specs.ParsedName.{labels}
use Rattle.dns_name.specs.declared.parser.Parser.{Parser}
use Rattle.dns_wire.specs.Parts.{Part}
use Rattle.dns_wire.specs.Parts.Part.{Octets as OctetsPart, CompressibleName, UncompressedName as UncompressedPart}
use Rattle.fields_table.specs.declared.kind.Kind.{Kind}
use Rattle.fields_table.specs.declared.shape.Shape.{Shape}
use Rattle.fields_table.specs.declared.encoded.Encoded.{Encoded}
use Rattle.fields_table.specs.declared.encoded.Encoded.TheVariants.{Octets, Name, UncompressedName}
use Rattle.fields_table.specs.Layouts.{HasField, FieldFaultAt}

-- the part of an encoded field
abbrev pub part_of : Encoded → Part
part_of (Octets octets) = OctetsPart octets.now
part_of (Name name) = CompressibleName (labels name)
part_of (UncompressedName lowers name) = UncompressedPart lowers (labels name)

-- the field at the parser's offset, with the parser moved past it; or the fault there
abbrev pub Reads : Kind → Shape → Parser → Parser → Result Encoded ParseError → Type 0
Reads kind s old new (Ok field) = HasField (seen old) kind s (offset old) (offset new) (part_of field) × MovesTo old new (offset new)
Reads kind s old new (Err e) = FieldFaultAt (seen old) kind s (offset old) (fault_of e)
