-- Parts unchanged or in canonical form. RFC 4034 section 6.2.
use Rattle.std.specs.Prelude.{Bool, true, false, List, map}
use Rattle.dns_wire.specs.Parts.{Part, Octets, CompressibleName, UncompressedName}
use Rattle.dns_data.specs.RecordData.{canonical_part}

abbrev pub form : Bool → Part → Part
form true (Octets octets) = canonical_part (Octets octets)
form true (CompressibleName name) = canonical_part (CompressibleName name)
form true (UncompressedName lowers name) = canonical_part (UncompressedName lowers name)
form false (Octets octets) = Octets octets
form false (CompressibleName name) = CompressibleName name
form false (UncompressedName lowers name) = UncompressedName lowers name

abbrev pub formed : Bool → List Part → List Part
formed canonical parts = map (form canonical) parts
