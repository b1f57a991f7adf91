-- What is written is read as the same transfer. RFC 5936 section 2.2, RFC 1995 section 4.
use Rattle.std.specs.Prelude.{◌≡◌, ℕ, Bool, true, false, ◌==◌, if◌then◌else◌, List, [], ◌∷◌, length, map, Option, Some, Result, Ok, Err}
use Rattle.std.specs.List.{AllByRecursion}
use Rattle.dns_wire.specs.Encoders.{Rule}
use Rattle.dns_wire.specs.Parts.{Part}
use Rattle.dns_wire.specs.Parts.Part.{Octets, CompressibleName, UncompressedName}
use Rattle.dns_code.specs.Header.{fields_in}
use Rattle.dns_name.specs.NameOrders.{names_equal}
use Rattle.dns_item.specs.Items.{RecordItem}
use Rattle.dns_item.specs.ParsedRecord.{EncodedRecord}
use Rattle.dns_item.specs.Questions.{QuestionItem}
use Rattle.dns_read.specs.SameQuestions.{same_question}
use Rattle.dns_read.specs.Searches.{questions_of}
use Rattle.dns_build.specs.BuilderStates.{Built}
use Rattle.dns_build.specs.TypedReading.{EncodedAs}
use Rattle.dns_transfer.specs.Asked.{Asked, question_of}
use Rattle.dns_transfer.specs.Forms.{IsTransfer, whole_steps}
use Rattle.dns_transfer.specs.Kinds.{is_within, octets_in, serial_of}
use Rattle.dns_transfer.specs.Runs.{StepOf}
use Rattle.dns_transfer.specs.Runs.StepOf.{Begin, UpToDate, FallsBackToAxfr, Remove, Add, End}
use Rattle.dns_transfer.specs.Transfers.{TransfersFrom}
use Rattle.dns_transfer.specs.declared.error.TransferError.{TransferError}
use Rattle.dns_transfer.specs.declared.error.TransferError.TheVariants.{WrongClass, OutsideZone, WrongSoa}
use Rattle.dns_transfer.specs.declared.grammar.Kind.{Kind}
use Rattle.dns_transfer.specs.declared.grammar.Kind.TheVariants.{Soa, Other}
use Rattle.dns_transfer.specs.declared.grammar.State.TheVariants.{Wanted, Ended}
use Rattle.dns_transfer_writer.specs.Messages.{GivesMessage, Sending}

-- The query asks for what the reader waits for: its ID and opcode, and its one question.
pub record IsQueryOf (asked : Asked) (query : List ℕ) : Type 0 where
  pub id : (fields_in query).id ≡ asked.id
  pub opcode : (fields_in query).opcode ≡ 0
  pub question : QuestionItem
  pub alone : questions_of query ≡ Ok question ∷ []
  pub same : same_question question (question_of asked) ≡ true

-- what a record is, or why a transfer of this zone may not have it: `kind_of` of dns_transfer, of a record as a value
abbrev pub kind_of_item : Asked → RecordItem → Result Kind TransferError
kind_of_item asked x =
    if x.class == asked.class
    then (if is_within x.owner asked.zone
    then (if x.rtype == 6 then (if names_equal x.owner asked.zone then Ok (Soa (serial_of x.parts)) else Err WrongSoa) else Ok Other)
    else Err OutsideZone)
    else Err WrongClass

-- whether parts are octets alone
abbrev pub has_no_name : List Part → Bool
has_no_name [] = true
has_no_name (Octets octets ∷ parts) = has_no_name parts
has_no_name (CompressibleName name ∷ parts) = false
has_no_name (UncompressedName lowercased name ∷ parts) = false

-- SOA RDATA: two names, and the twenty octets of the five numbers, in one part or several. RFC 1035 section 3.3.13.
abbrev pub AreSoaParts : List Part → Type 0
AreSoaParts (CompressibleName mname ∷ CompressibleName rname ∷ numbers) = (has_no_name numbers ≡ true) × (length (octets_in numbers) ≡ 20)
AreSoaParts _ = ⊥

-- an SOA record has the parts of SOA RDATA
abbrev pub HasSoaData : RecordItem → Type 0
HasSoaData x = x.rtype ≡ 6 → AreSoaParts x.parts

-- the messages of calls, one after the other, until no record is left; each over any target, and with any limit
pub data WritesAll : Sending → List (List ℕ) → Type 0 where
  none : {old : Sending} → old.left ≡ [] → WritesAll old []
  more : (capacity : Option ℕ) (grows : Bool) (rule : Rule) (limit : ℕ) {old new : Sending} {b : Built} {bs : List (List ℕ)}
      → GivesMessage capacity grows rule limit old new (Some (Ok b)) → WritesAll new bs → WritesAll old (b.written.octets ∷ bs)

-- a record, and the same in the octets of a message
pub record Sent : Type 0 where
  pub item : RecordItem
  pub octets : List ℕ
  pub encoded : EncodedRecord
  pub as_sent : EncodedAs octets item encoded

module _ {X Y : Type 0} (f : X → Y) where
  -- a step over records of another form
  abbrev pub step_with : StepOf X → StepOf Y
  step_with (Begin serial r) = Begin serial (f r)
  step_with (UpToDate serial) = UpToDate serial
  step_with FallsBackToAxfr = FallsBackToAxfr
  step_with (Remove r) = Remove (f r)
  step_with (Add r) = Add (f r)
  step_with (End serial) = End serial

-- The records `xs` are those of a whole transfer, with the steps `steps`. Then all messages that a writer writes of them are taken, as a finished transfer with these steps.
abbrev pub WrittenIsRead : Type 0
WrittenIsRead = (asked : Asked) (query : List ℕ) (xs : List RecordItem) (steps : List (StepOf RecordItem)) (bs : List (List ℕ))
    → IsQueryOf asked query → IsTransfer (kind_of_item asked) asked.request xs steps → AllByRecursion HasSoaData xs
    → WritesAll (record { query = query; begun = false; left = xs }) bs
    → (given : List (StepOf Sent)) × (map (step_with (λ (r : Sent). r.item)) given ≡ steps)
    × TransfersFrom asked Wanted bs (whole_steps (map (step_with (λ (r : Sent). r.encoded)) given)) (Ok Ended)
