-- What parsing and skipping a name return. RFC 1035 section 4.1.4.
use Rattle.std.specs.Prelude.{◌≡◌, ℕ, List, ◌++◌, drop, Result, Ok, Err, IsOkAnd, [], ◌∷◌, take}
use Rattle.dns_octets.specs.declared.error.ParseError.{ParseError}
use Rattle.dns_name.specs.Names.{fault_of, Labels, uncompressed, NameAt, FaultAt, NameEndsAt, SkipFaultAt, with_root}
use Rattle.dns_name.specs.Parsers.{seen, offset, MovesTo}
use Rattle.dns_name.specs.declared.parser.Parser.{Parser}
use Rattle.dns_name.specs.declared.parsed_name.ParsedName.{ParsedName}
use Rattle.dns_name.specs.declared.label.Label.{Label}
use Rattle.dns_name.specs.declared.label_iter.LabelIter.{LabelIter}

-- The labels of a parsed name.
abbrev pub labels : ParsedName → Labels
labels name = name.name_at.0.0

-- The name is read in these octets, and its own encoding begins at this offset in them.
abbrev pub BeginsAt : List ℕ → ℕ → ParsedName → Type 0
BeginsAt b p name = (name.octets.now ≡ b) × (name.pos ≡ p)

-- The octets at the name's offset are its uncompressed octets.
abbrev pub IsFlat : ParsedName → Type 0
IsFlat name = (after : List ℕ) × (drop name.pos name.octets.now ≡ uncompressed (labels name) ++ after)

-- The parser moved past the encoding of the name at its old offset, and sees the same octets.
abbrev pub MovesPastName : Parser → Parser → Type 0
MovesPastName old new = NameEndsAt (seen old) (offset old) (offset new) × MovesTo old new (offset new)

-- The result is the name encoded at the parser's offset, and the parser moved past its encoding; or it is the fault there, and the parser is unchanged.
abbrev pub ParsesName : Parser → Parser → Result ParsedName ParseError → Type 0
ParsesName old new (Ok name) = NameAt (seen old) (offset old) (labels name) × MovesPastName old new
ParsesName old new (Err e) = FaultAt (seen old) (offset old) (fault_of e) × (new ≡ old)

-- The parser moved past the encoding of a name; or the result is the fault of skipping, and the parser is unchanged.
abbrev pub SkipsName : Parser → Parser → Result Unit ParseError → Type 0
SkipsName old new (Ok _) = MovesPastName old new
SkipsName old new (Err e) = SkipFaultAt (seen old) (offset old) (fault_of e) × (new ≡ old)

-- If a name is encoded at offset p, the result is that name.
abbrev pub ReadsEncoded : List ℕ → ℕ → Result ParsedName ParseError → Type 0
ReadsEncoded b p result = (name : Labels) → NameAt b p name → IsOkAnd result (λ r. labels r ≡ name)

-- The octets of a label, without its length octet.
abbrev pub label_octets : Label → List ℕ
label_octets label = label.octets.now

-- The first label of a name, and the offset of the remaining labels.
abbrev pub IsFirst : List ℕ → Labels → Label → ℕ → Type 0
IsFirst b [] label after = (label_octets label ≡ []) × NameAt b after []
IsFirst b (first ∷ others) label after = (label_octets label ≡ first) × NameAt b after others

-- The remaining labels of an iterator, the root label last.
abbrev pub labels_left : LabelIter → Labels
labels_left it = take it.labels_at.1.0 (with_root it.labels_at.0.0)
