-- How the records of a message are copied into a builder, step by step, up to the first error. KeptRecords.antt says without steps what a successful copy leaves. RFC 1035 section 4.1.
use Rattle.std.specs.Prelude.{◌≡◌, ℕ, Bool, List, [], ◌∷◌, length, Option, Some, None, option_map, Result, Ok, Err}
use Rattle.dns_octets.specs.declared.error.ParseError.{ParseError}
use Rattle.dns_name.specs.Names.{Fault, fault_of}
use Rattle.dns_wire.specs.Encoders.{Rule}
use Rattle.dns_item.specs.Items.{RecordItem}
use Rattle.dns_item.specs.ParsedRecord.{EncodedRecord, encoded_record}
use Rattle.dns_item.specs.declared.parsed_record.ParsedRecord.{ParsedRecord}
use Rattle.dns_read.specs.RecordsFrom.{records_in}
use Rattle.dns_read.specs.Sections.{StartFault, StartsAt, record_count}
use Rattle.dns_read.specs.declared.section.Section.{Section}
use Rattle.dns_read.specs.declared.section.Section.TheVariants.{Answer, Authority, Additional}
use Rattle.dns_build.specs.State.{Stage, InAdditional, stage_of, State, with_record, records_at, move_to}
use Rattle.dns_build.specs.BuilderStates.{Built, Represents, PushReturns, size_after}
use Rattle.dns_build.specs.declared.push_error.PushError.{PushError}
use Rattle.dns_build.specs.declared.copy_records_error.CopyRecordsError.{CopyRecordsError}
use Rattle.dns_build.specs.declared.copy_records_error.CopyRecordsError.TheVariants.{Parse, Push}

-- pushing a record into the section of a stage: it is appended, or it fails and nothing changes
abbrev pub PushesRecord : Option ℕ → Bool → Rule → Stage → RecordItem → State → Result (Unit {0}) PushError → State → Type 0
PushesRecord capacity grows rule stage x s (Ok _) after =
    PushReturns capacity grows s.limit (size_after rule (with_record stage x) s) (length (records_at stage s)) (Ok tt) × (after ≡ with_record stage x s)
PushesRecord capacity grows rule stage x s (Err e) after =
    PushReturns capacity grows s.limit (size_after rule (with_record stage x) s) (length (records_at stage s)) (Err e) × (after ≡ s)

-- pushing the record that the closure returned; for `None` nothing changes
abbrev pub PushesKept : Option ℕ → Bool → Rule → Stage → Option RecordItem → State → Result (Unit {0}) PushError → State → Type 0
PushesKept capacity grows rule stage (Some x) s result after = PushesRecord capacity grows rule stage x s result after
PushesKept capacity grows rule stage None s result after = (result ≡ Ok tt) × (after ≡ s)

-- the record sections of a message, in order
abbrev pub record_sections : List Section
record_sections = Answer ∷ Authority ∷ Additional ∷ []

-- `call f x r g` says that the closure in state `f`, called on the record `x`, returns `r` and is then in state `g`. `item r` is the record to push for `r`.
-- The target has capacity `capacity`, allocates if `grows`, and compresses by `rule`.
module _ {F R : Type 0} (call : F → ParsedRecord → Option R → F → Type 0) (item : R → RecordItem) (capacity : Option ℕ) (grows : Bool) (rule : Rule) where
  -- The closure is called on the record `x`. The record that it returns, if any, is pushed.
  pub record CopiesRecord (stage : Stage) (x : EncodedRecord) (f : F) (s : State) (result : Result (Unit {0}) PushError) (f' : F) (s' : State) : Type 0 where
    pub shown : ParsedRecord
    pub represents : encoded_record shown ≡ x
    pub kept : Option R
    pub called : call f shown kept f'
    pub pushed : PushesKept capacity grows rule stage (option_map item kept) s result s'

  -- The records of a reading are copied in order, up to the first push that fails or the fault that ends the reading.
  pub data CopiesList (stage : Stage) : List (Result EncodedRecord Fault) → F → State → Result (Unit {0}) CopyRecordsError → F → State → Type 0 where
    none : {f : F} {s : State} → CopiesList stage [] f s (Ok tt) f s
    copied : {x : EncodedRecord} {xs : List (Result EncodedRecord Fault)} {f g h : F} {s t u : State} {result : Result (Unit {0}) CopyRecordsError}
        → CopiesRecord stage x f s (Ok tt) g t → CopiesList stage xs g t result h u → CopiesList stage (Ok x ∷ xs) f s result h u
    refused : {x : EncodedRecord} {xs : List (Result EncodedRecord Fault)} {f g : F} {s t : State} {e : PushError}
        → CopiesRecord stage x f s (Err e) g t → CopiesList stage (Ok x ∷ xs) f s (Err (Push e)) g t
    fault : {xs : List (Result EncodedRecord Fault)} {f : F} {s : State} {e : ParseError}
        → CopiesList stage (Err (fault_of e) ∷ xs) f s (Err (Parse e)) f s

  -- A section of the message is copied into the same section of the builder. If the section has no start, the result is the fault that says why.
  pub data CopiesSection (b : List ℕ) (section : Section) : F → State → Result (Unit {0}) CopyRecordsError → F → State → Type 0 where
    started : {f g : F} {s t : State} {result : Result (Unit {0}) CopyRecordsError} (p : ℕ)
        → StartsAt section b p → CopiesList (stage_of section) (records_in b (record_count section b) p) f s result g t → CopiesSection b section f s result g t
    unstarted : {f : F} {s : State} {e : ParseError} → StartFault section b (fault_of e) → CopiesSection b section f s (Err (Parse e)) f s

  -- Sections of the message are copied in order, up to the first error. The builder moves to each section before its records are copied.
  pub data CopiesSections (b : List ℕ) : List Section → F → State → Result (Unit {0}) CopyRecordsError → F → State → Type 0 where
    none : {f : F} {s : State} → CopiesSections b [] f s (Ok tt) f s
    copied : {section : Section} {sections : List Section} {f g h : F} {s t u : State} {result : Result (Unit {0}) CopyRecordsError}
        → CopiesSection b section f (move_to (stage_of section) s) (Ok tt) g t → CopiesSections b sections g t result h u → CopiesSections b (section ∷ sections) f s result h u
    stopped : {section : Section} {sections : List Section} {f g : F} {s t : State} {e : CopyRecordsError}
        → CopiesSection b section f (move_to (stage_of section) s) (Err e) g t → CopiesSections b (section ∷ sections) f s (Err e) g t

  -- one record is copied, and the builder represents the state that is left
  abbrev pub CopiesRecordTo : Stage → EncodedRecord → F → State → Result (Unit {0}) PushError → F → Built → Type 0
  CopiesRecordTo stage x f s result g new = (left : State) × CopiesRecord stage x f s result g left × Represents stage rule left new

  -- a reading is copied, and the builder represents the state that is left
  abbrev pub CopiesListTo : Stage → List (Result EncodedRecord Fault) → F → State → Result (Unit {0}) CopyRecordsError → F → Built → Type 0
  CopiesListTo stage xs f s result g new = (left : State) × CopiesList stage xs f s result g left × Represents stage rule left new

  -- The three record sections of a message are copied, and the builder represents the state that is left; or the result is the first error.
  abbrev pub CopiesMessage : List ℕ → F → State → Result Built CopyRecordsError → Type 0
  CopiesMessage b f s (Ok new) = (g : F) × (left : State) × CopiesSections b record_sections f s (Ok tt) g left × Represents InAdditional rule left new
  CopiesMessage b f s (Err e) = (g : F) × (left : State) × CopiesSections b record_sections f s (Err e) g left
