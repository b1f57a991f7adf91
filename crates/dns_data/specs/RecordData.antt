-- What reading and writing RDATA returns. RFC 1035 sections 3.3 and 4.1.3; the canonical form: RFC 4034 section 6.2.
use Rattle.std.specs.Prelude.{◌≡◌, ℕ, ◌≤◌, ◌==◌, if◌then◌else◌, List, map, Option, None, Some, Result, Ok, Err}
use Rattle.dns_name.specs.Names.{fault_of, lowered, uncompressed}
use Rattle.dns_name.specs.Parsers.{seen, offset, MovesTo}
use Rattle.dns_wire.specs.Parts.{Part, AreParts, parts_size}
use Rattle.dns_wire.specs.Parts.Part.{Octets, CompressibleName, UncompressedName}
use Rattle.dns_octets.specs.declared.error.ParseError.{ParseError}
use Rattle.dns_name.specs.declared.parser.Parser.{Parser}
use Rattle.dns_data.specs.Layout.{Layout, DataAt, DataFaultAt}

-- parts that RDATA can have: their names are names, and uncompressed they take at most 65,535 octets
pub record IsData (parts : List Part) : Type 0 where
  pub names : AreParts parts
  pub short : parts_size parts ≤ 65535

-- a part in canonical form: a name is uncompressed and lowercased, but one that is never compressed only if its flag says so
abbrev pub canonical_part : Part → Part
canonical_part (Octets octets) = Octets octets
canonical_part (CompressibleName name) = Octets (uncompressed (lowered name))
canonical_part (UncompressedName lowercased name) = Octets (uncompressed (if lowercased then lowered name else name))

-- parts in canonical form
abbrev pub canonical : List Part → List Part
canonical parts = map canonical_part parts

-- a layout for one record type alone
abbrev pub only : ℕ → Layout → ℕ → Option Layout
only taken layout rtype = if rtype == taken then Some layout else None

module _ {D : Type 0} (rtype_of : D → ℕ) (parts_of : D → List Part) where
  -- What reading RDATA of a layout returns: the value whose parts are at the parser's offset, with the parser moved past them; or the first fault there, and the parser doesn't move.
  abbrev pub ParsesLaidOut : Layout → ℕ → Parser → Parser → Result D ParseError → Type 0
  ParsesLaidOut layout rtype old new (Ok value) =
      (rtype_of value ≡ rtype) × DataAt (seen old) layout (offset old) (offset new) (parts_of value) × MovesTo old new (offset new)
  ParsesLaidOut layout rtype old new (Err e) = DataFaultAt (seen old) layout (offset old) (fault_of e) × (new ≡ old)

  -- As `ParsesLaidOut`, for a type that may have no layout: then it returns `None`, and the parser doesn't move.
  abbrev pub ParsesTaken : Option Layout → ℕ → Parser → Parser → Result (Option D) ParseError → Type 0
  ParsesTaken None rtype old new (Ok None) = new ≡ old
  ParsesTaken None rtype old new (Ok (Some value)) = ⊥
  ParsesTaken None rtype old new (Err e) = ⊥
  ParsesTaken (Some layout) rtype old new (Ok None) = ⊥
  ParsesTaken (Some layout) rtype old new (Ok (Some value)) = ParsesLaidOut layout rtype old new (Ok value)
  ParsesTaken (Some layout) rtype old new (Err e) = ParsesLaidOut layout rtype old new (Err e)
