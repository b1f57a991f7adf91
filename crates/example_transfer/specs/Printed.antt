-- What is printed for the steps of a transfer: lines of a zone file for records that are added, such lines after `- ` for those that are removed, and comments. RFC 1035 section 5.1.
use Rattle.std.specs.Prelude.{◌≡◌, ℕ, ◌⊎◌, Bool, false, true, List, [], ◌∷◌, ◌++◌, Option, Some, None, Ok, Err, codes}
use Rattle.std.specs.Io.KnownBytes.{Appends}
use Rattle.dns_message.specs.Names.{Fault, labels}
use Rattle.dns_message.specs.declared.name.ParsedName.{ParsedName}
use Rattle.dns_message.specs.Data.{Part, opaque_layout, opaque_text}
use Rattle.dns_message.specs.Fields.{record_text, type_layout, zone_name_text}
use Rattle.dns_message.specs.Records.{EncodedRecord, IsThere, HasData, HasDataFault, owner_of, class_of, ttl_of, data_of}
use Rattle.dns_message.specs.declared.record.Record.{Record}
use Rattle.dns_message.specs.Show.{line}
use Rattle.dns_message.specs.ZoneLines.{line_with}
use Rattle.dns_message.specs.Transfers.{Begin, UpToDate, FallsBackToAxfr, Remove, Add, End}
use Rattle.dns_message.specs.Transfers.Steps.{TransferStep, Item}

-- The line of a record: its RDATA as the fields of its type, or as octets if it isn't such fields.
pub data IsRecordLine (x : EncodedRecord) (text : List ℕ) : Type 0 where
  as_fields : (parts : List Part) → HasData x.octets x.entry (type_layout x.entry.rtype) parts → text ≡ line_with x (Some parts) → IsRecordLine x text
  as_octets : (f : Fault) → HasDataFault x.octets x.entry (type_layout x.entry.rtype) f → text ≡ line_with x None → IsRecordLine x text

-- the RDATA of a record can't be read even as octets: it is incomplete, or it has a fault
abbrev pub HasNoOctets : EncodedRecord → Type 0
HasNoOctets x = IsThere x.octets x.entry → (f : Fault) × HasDataFault x.octets x.entry opaque_layout f

-- the text of a record: its line, or a comment
abbrev pub IsRecordText : EncodedRecord → List ℕ → Type 0
IsRecordText x text = IsRecordLine x text ⊎ (HasNoOctets x × (text ≡ codes "; unreadable data\n"))

-- the text of a record that is removed
abbrev pub IsRemovedText : EncodedRecord → List ℕ → Type 0
IsRemovedText x text = (shown : List ℕ) × IsRecordText x shown × (text ≡ codes "- " ++ shown)

-- The text of the SOA record of `Begin`, and what is kept then. By IXFR the text is kept, as changes add the record themselves.
abbrev pub IsBeginText : Bool → List ℕ → EncodedRecord → List ℕ → List ℕ → Type 0
IsBeginText false kept soa text later = IsRecordText soa text × (later ≡ kept)
IsBeginText true kept soa text later = (text ≡ []) × IsRecordText soa later

-- The text of a step, by what was kept before, and what is kept then. What is kept is the first line of a whole zone that follows in place of changes.
abbrev pub IsStepText : Bool → List ℕ → TransferStep → List ℕ → List ℕ → Type 0
IsStepText by_ixfr kept (Begin serial soa) text later = IsBeginText by_ixfr kept soa text later
IsStepText by_ixfr kept (Add x) text later = IsRecordText x text × (later ≡ kept)
IsStepText by_ixfr kept (Remove x) text later = IsRemovedText x text × (later ≡ kept)
IsStepText by_ixfr kept (UpToDate serial) text later = (text ≡ codes "; up to date\n") × (later ≡ kept)
IsStepText by_ixfr kept FallsBackToAxfr text later = (text ≡ codes "; the whole zone\n" ++ kept) × (later ≡ kept)
IsStepText by_ixfr kept (End serial) text later = (text ≡ []) × (later ≡ kept)

-- the text of an item: an error has none
abbrev pub IsItemText : Bool → List ℕ → Item → List ℕ → List ℕ → Type 0
IsItemText by_ixfr kept (Ok step) text later = IsStepText by_ixfr kept step text later
IsItemText by_ixfr kept (Err e) text later = (text ≡ []) × (later ≡ kept)

-- the texts of items, in order, by what was kept before them, and what is kept then
pub data AreItemTexts (by_ixfr : Bool) : List ℕ → List Item → List ℕ → List ℕ → Type 0 where
  none : {kept : List ℕ} → AreItemTexts by_ixfr kept [] [] kept
  more : {kept later last texts : List ℕ} {x : Item} {xs : List Item} (text : List ℕ)
      → IsItemText by_ixfr kept x text later → AreItemTexts by_ixfr later xs texts last → AreItemTexts by_ixfr kept (x ∷ xs) (text ++ texts) last

-- a text of this form is appended
abbrev pub Prints : (List ℕ → Type 0) → Option (List ℕ) → Option (List ℕ) → Type 0
Prints IsText old new = (text : List ℕ) × IsText text × Appends old new text

-- the text of a step is appended
abbrev pub PrintsStep : Bool → List ℕ → TransferStep → List ℕ → Option (List ℕ) → Option (List ℕ) → Type 0
PrintsStep by_ixfr kept step later old new = Prints (λ text. IsStepText by_ixfr kept step text later) old new

-- the text of an item is appended
abbrev pub PrintsItem : Bool → List ℕ → Item → List ℕ → Option (List ℕ) → Option (List ℕ) → Type 0
PrintsItem by_ixfr kept x later old new = Prints (λ text. IsItemText by_ixfr kept x text later) old new

-- the texts of items are appended
abbrev pub PrintsItems : Bool → List ℕ → List Item → List ℕ → Option (List ℕ) → Option (List ℕ) → Type 0
PrintsItems by_ixfr kept items later old new = Prints (λ text. AreItemTexts by_ixfr kept items text later) old new

-- the line of a record whose RDATA has this type and these octets
abbrev pub octets_line : {D : Type 0} → (D → ℕ) → (D → List ℕ) → Record ParsedName D → List ℕ
octets_line type_of octets_of r =
    line (record_text (zone_name_text (labels (owner_of r))) (ttl_of r) (class_of r) (type_of (data_of r)) (opaque_text (octets_of (data_of r))))
