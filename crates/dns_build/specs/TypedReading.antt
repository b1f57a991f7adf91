-- What a data type yields of the records that were pushed. RFC 1035 sections 3.3 and 4.1.3.
use Rattle.std.specs.Prelude.{◌≡◌, ℕ, ◌==◌, List, [], ◌∷◌, filter, map, is_some, IfSome, IsOkAnd, IsSomeAnd, Option, Result, Ok}
use Rattle.std.specs.List.{All}
use Rattle.dns_octets.specs.declared.error.ParseError.{ParseError}
use Rattle.dns_name.specs.Names.{Fault}
use Rattle.dns_name.specs.ParsedName.{labels}
use Rattle.dns_name.specs.declared.parsed_name.ParsedName.{ParsedName}
use Rattle.dns_wire.specs.Parts.{Part, PartsAt}
use Rattle.dns_data.specs.Layout.{Layout, IsLaidOut}
use Rattle.dns_item.specs.ParsedData.{HasSpan}
use Rattle.dns_item.specs.Items.{RecordItem}
use Rattle.dns_item.specs.ParsedRecord.{EncodedRecord}
use Rattle.dns_item.specs.Record.{record_item}
use Rattle.dns_item.specs.RecordReading.{item_of, ReturnsLaidOut, ReturnsTaken}
use Rattle.dns_item.specs.TypedRecords.{laid_out}
use Rattle.dns_item.specs.declared.record.Record.{Record}
use Rattle.dns_read.specs.SectionStarts.{records_of}
use Rattle.dns_read.specs.AnyRecordIter.{every}
use Rattle.dns_read.specs.Limited.{in_class_in, limited}
use Rattle.dns_read.specs.declared.section.Section.{Section}
use Rattle.dns_build.specs.MessageOf.{ReadsBack}
use Rattle.dns_build.specs.State.{State, records_at, stage_of}

-- the records of a section of a state
abbrev pub pushed : Section → State → List RecordItem
pushed which s = records_at (stage_of which) s

-- if the data type accepts the type of the record, its layout accepts the record's parts
abbrev pub IsLaidOutBy : (ℕ → Option Layout) → RecordItem → Type 0
IsLaidOutBy layouts x = IfSome (layouts x.rtype) (λ layout. IsLaidOut layout x.parts)

-- the data type accepts the type of the record, and its layout accepts the record's parts
abbrev pub IsTakenBy : (ℕ → Option Layout) → RecordItem → Type 0
IsTakenBy layouts x = IsSomeAnd (layouts x.rtype) (λ layout. IsLaidOut layout x.parts)

-- the records whose types the data type accepts
abbrev pub taken : (ℕ → Option Layout) → List RecordItem → List RecordItem
taken layouts = filter (λ x. is_some (layouts x.rtype))

-- the records of class IN, which is 1
abbrev pub of_class_in : List RecordItem → List RecordItem
of_class_in = filter (λ x. x.class == 1)

-- a record is in the octets as it was pushed: its fields are those of `x`, the parts of `x` fill its RDATA, and each layout that accepts these parts reads `x`
pub record EncodedAs (b : List ℕ) (x : RecordItem) (encoded : EncodedRecord) : Type 0 where
  pub octets : encoded.octets ≡ b
  pub there : HasSpan encoded
  pub parts : PartsAt encoded.octets encoded.entry.rdata_end encoded.entry.rdata_start x.parts
  pub item : item_of encoded.entry x.parts ≡ x
  pub outcome : (layout : Layout) → IsLaidOut layout x.parts → laid_out encoded layout ≡ Ok x

-- the items of a reading are the pushed records, one for one, without a fault
abbrev pub AllEncodedAs : List ℕ → List RecordItem → List (Result EncodedRecord Fault) → Type 0
AllEncodedAs b [] [] = Unit {0}
AllEncodedAs b [] (item ∷ items) = ⊥
AllEncodedAs b (x ∷ xs) [] = ⊥
AllEncodedAs b (x ∷ xs) (item ∷ items) = IsOkAnd item (EncodedAs b x) × AllEncodedAs b xs items

-- Theorems over all octets that read back as a state. RFC 1035 section 4.1.3.

-- each pushed record reads back in its section
abbrev pub PushedRecordsAreEncoded : Type 0
PushedRecordsAreEncoded = (s : State) (b : List ℕ) → ReadsBack s b → (which : Section) → AllEncodedAs b (pushed which s) (records_of which b)

-- If a data type lays out the parts of each pushed record whose type it accepts, it yields exactly these records of the section, in order and without a fault.
abbrev pub TypedRecordsReadBack : Type 0
TypedRecordsReadBack = (s : State) (b : List ℕ) → ReadsBack s b → (which : Section) (layouts : ℕ → Option Layout)
    → All (IsLaidOutBy layouts) (pushed which s) → limited layouts (records_of which b) ≡ map Ok (taken layouts (pushed which s))

-- the same for a data type that accepts every type: it yields all records of the section
abbrev pub AnyRecordsReadBack : Type 0
AnyRecordsReadBack = (s : State) (b : List ℕ) → ReadsBack s b → (which : Section) (layouts : ℕ → Layout)
    → All (λ x. IsLaidOut (layouts x.rtype) x.parts) (pushed which s) → limited (every layouts) (records_of which b) ≡ map Ok (pushed which s)

-- the same if records of classes other than IN are skipped; these may have any layout
abbrev pub TypedRecordsInReadBack : Type 0
TypedRecordsInReadBack = (s : State) (b : List ℕ) → ReadsBack s b → (which : Section) (layouts : ℕ → Option Layout)
    → All (IsLaidOutBy layouts) (of_class_in (pushed which s)) → limited layouts (in_class_in (records_of which b)) ≡ map Ok (taken layouts (of_class_in (pushed which s)))

-- Theorems on one record that is in the octets as it was pushed, for any result of reading its RDATA with a data type. RFC 1035 section 4.1.3.
module _ {D : Type 0} (rtype_of : D → ℕ) (parts_of : D → List Part) where
  -- If the data type accepts the type of the record and lays out its parts, a record with the same owner, type, class, TTL and parts is read.
  abbrev pub ToRecordReadsBack : (ℕ → Option Layout) → Type 0
  ToRecordReadsBack layouts = (b : List ℕ) (x : RecordItem) (encoded : EncodedRecord) (result : Result (Option (Record ParsedName D)) ParseError)
      → EncodedAs b x encoded → IsTakenBy layouts x
      → ReturnsTaken rtype_of parts_of encoded.octets encoded.entry (layouts encoded.entry.rtype) result
      → IsOkAnd result (λ o. IsSomeAnd o (λ r. record_item labels rtype_of parts_of r ≡ x))

  -- the same for a data type that accepts every type
  abbrev pub ToAnyRecordReadsBack : (ℕ → Layout) → Type 0
  ToAnyRecordReadsBack layouts = (b : List ℕ) (x : RecordItem) (encoded : EncodedRecord) (result : Result (Record ParsedName D) ParseError)
      → EncodedAs b x encoded → IsLaidOut (layouts x.rtype) x.parts
      → ReturnsLaidOut rtype_of parts_of encoded.octets encoded.entry (layouts encoded.entry.rtype) result
      → IsOkAnd result (λ r. record_item labels rtype_of parts_of r ≡ x)
