-- Messages that builders write are regular. RFC 1035 section 4.1.4.
use Rattle.std.specs.Prelude.{◌≡◌, ◌≢◌, ℕ, zero, suc, List, [], ◌∷◌, ◌++◌, length}
use Rattle.dns_wire.specs.Encoders.{Rule}
use Rattle.dns_wire.specs.Parts.{Part, Octets, CompressibleName, UncompressedName, parts_size}
use Rattle.dns_data.specs.Layout.{IsLaidOut}
use Rattle.dns_item.specs.Items.{RecordItem}
use Rattle.fields_table.specs.FieldData.{type_layout}
use Rattle.dns_edit.specs.Acceptance.{IsRegular}
use Rattle.dns_edit.specs.Rdata.{name_count, names_start}
use Rattle.dns_build.specs.State.{State, IsState, Every, encode}

-- The octets with which RDATA begins, up to its first name.
abbrev pub octets_first : List Part → List ℕ
octets_first [] = []
octets_first (Octets octets ∷ parts) = octets ++ octets_first parts
octets_first (CompressibleName name ∷ parts) = []
octets_first (UncompressedName lowercased name ∷ parts) = []

-- The parts from the first name on.
abbrev pub from_name : List Part → List Part
from_name [] = []
from_name (Octets octets ∷ parts) = from_name parts
from_name (CompressibleName name ∷ parts) = CompressibleName name ∷ parts
from_name (UncompressedName lowercased name ∷ parts) = UncompressedName lowercased name ∷ parts

-- None of the parts is a name that may be compressed.
abbrev pub NoneCompressible : List Part → Type 0
NoneCompressible [] = Unit {0}
NoneCompressible (Octets octets ∷ parts) = NoneCompressible parts
NoneCompressible (CompressibleName name ∷ parts) = ⊥
NoneCompressible (UncompressedName lowercased name ∷ parts) = NoneCompressible parts

-- The parts are n names, and others of which none may be compressed.
abbrev pub NamesFirst : ℕ → List Part → Type 0
NamesFirst zero parts = NoneCompressible parts
NamesFirst (suc n) [] = ⊥
NamesFirst (suc n) (Octets octets ∷ parts) = ⊥
NamesFirst (suc n) (CompressibleName name ∷ parts) = NamesFirst n parts
NamesFirst (suc n) (UncompressedName lowercased name ∷ parts) = NamesFirst n parts

-- If the RDATA isn't empty, its parts have as many names as its type says, and the first begins where the type says. Other names among them are never compressed.
pub record HasItsNames (x : RecordItem) : Type 0 where
  pub start : name_count x.rtype ≢ 0 → parts_size x.parts ≢ 0 → names_start (octets_first x.parts) x.rtype 0 ≡ length (octets_first x.parts)
  pub names : parts_size x.parts ≢ 0 → NamesFirst (name_count x.rtype) (from_name x.parts)

-- Each record of a state does.
abbrev pub HaveTheirNames : State → Type 0
HaveTheirNames s = Every HasItsNames s.answers × Every HasItsNames s.authorities × Every HasItsNames s.additionals

-- The octets of a message that a builder writes are regular, under each rule of compression.
abbrev pub BuiltIsRegular : Type 0
BuiltIsRegular = (rule : Rule) (s : State) → IsState s → HaveTheirNames s → IsRegular (encode rule s).octets

-- A record whose RDATA has the layout of its type has its names.
abbrev pub LaidOutHasItsNames : Type 0
LaidOutHasItsNames = (x : RecordItem) → IsLaidOut (type_layout x.rtype) x.parts → HasItsNames x
