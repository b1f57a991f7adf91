-- What the steps of a message have left to yield. RFC 5936 section 2.2, RFC 1995 section 4.
use Rattle.std.specs.Bool.{⊤}
use Rattle.std.specs.Iterator.{YieldsFirstBy}
use Rattle.std.specs.Prelude.{◌≡◌, ℕ, if◌then◌else◌, List, [], ◌∷◌, Option, Some, None, Result, Ok, Err}
use Rattle.dns_name.specs.Names.{Fault}
use Rattle.dns_item.specs.ParsedRecord.{EncodedRecord, encoded_record}
use Rattle.dns_read.specs.RecordSection.{records_left, BeginsSection}
use Rattle.dns_read.specs.SectionStarts.{records_of}
use Rattle.dns_read.specs.declared.record_section.RecordSection.{RecordSection}
use Rattle.dns_read.specs.declared.section.Section.TheVariants.{Answer}
use Rattle.dns_transfer.specs.Asked.{Asked, asked_by}
use Rattle.dns_transfer.specs.Kinds.{kind_of}
use Rattle.dns_transfer.specs.Messages.{error_before_answers}
use Rattle.dns_transfer.specs.Grammar.{Outcome, falls_back}
use Rattle.dns_transfer.specs.Runs.{StepOf, ItemOf, RunOf, step_of, run}
use Rattle.dns_transfer.specs.Runs.StepOf.{Begin, UpToDate, FallsBackToAxfr, Remove, Add, End}
use Rattle.dns_transfer.specs.Transfer as transfers
use Rattle.dns_transfer.specs.declared.error.TransferError.{TransferError}
use Rattle.dns_transfer.specs.declared.grammar.State.{State}
use Rattle.dns_transfer.specs.declared.steps.Step.{Step}
use Rattle.dns_transfer.specs.declared.steps.Step.TheVariants as variants
use Rattle.dns_transfer.specs.declared.steps.Steps.{Steps}
use Rattle.dns_transfer.specs.declared.transfer.Transfer.{Transfer}

-- a step over a record with the octets that it is read from
abbrev pub TransferStep : Type 0
TransferStep = StepOf EncodedRecord

-- an item: such a step, or an error
abbrev pub Item : Type 0
Item = ItemOf EncodedRecord

-- what records give a transfer: items, and the state after them or the error
abbrev pub run_of : Asked → List (Result EncodedRecord Fault) → State → RunOf EncodedRecord
run_of asked = run (kind_of asked) asked.request

-- what a step says
abbrev pub step_said : Step → TransferStep
step_said (variants.Begin serial soa) = Begin serial (encoded_record soa)
step_said (variants.UpToDate serial) = UpToDate serial
step_said variants.FallsBackToAxfr = FallsBackToAxfr
step_said (variants.Remove shown) = Remove (encoded_record shown)
step_said (variants.Add shown) = Add (encoded_record shown)
step_said (variants.End serial) = End serial

-- what a result of the iterator says
abbrev pub step_result : Result Step TransferError → Item
step_result (Ok step) = Ok (step_said step)
step_result (Err e) = Err e

-- what is asked for
abbrev pub asked_of : Steps → Asked
asked_of it = asked_by it.query

-- the state after the steps that were yielded, or the error that was yielded
abbrev pub state_now : Steps → Result State TransferError
state_now it = it.state

-- the cursor over the records that weren't taken
abbrev pub cursor_of : Steps → RecordSection
cursor_of it = it.records

-- what records give from a state on, or nothing after an error
abbrev pub run_from : Asked → List (Result EncodedRecord Fault) → Result State TransferError → RunOf EncodedRecord
run_from asked xs (Ok state) = run_of asked xs state
run_from asked xs (Err e) = ([], Err e)

-- what the remaining records give
abbrev pub run_left : Steps → RunOf EncodedRecord
run_left it = run_from (asked_of it) (records_left (cursor_of it)) (state_now it)

-- what is left to yield
abbrev pub steps_left : Steps → List Item
steps_left it = (run_left it).0

-- the state after everything that is left, or the error
abbrev pub state_left : Steps → Result State TransferError
state_left it = (run_left it).1

-- of what records give, the first item is this outcome, and the rest is left
abbrev pub GivesFirst : RunOf EncodedRecord → Result Step TransferError → Steps → Type 0
GivesFirst all outcome new = (all.0 ≡ step_result outcome ∷ steps_left new) × (all.1 ≡ state_left new)

-- What is done as an outcome says: the step of the record `x` is yielded, and the cursor is after the record, or still before it if the record is taken again; or the error is kept.
abbrev pub ActsOn : Outcome → EncodedRecord → RecordSection → Steps → Result Step TransferError → Steps → Type 0
ActsOn (Ok (act, state)) x ahead old outcome new =
    (step_result outcome ≡ Ok (step_of act x)) × (state_now new ≡ Ok state) × (cursor_of new ≡ (if falls_back act then cursor_of old else ahead))
ActsOn (Err e) x ahead old outcome new = (step_result outcome ≡ Err e) × (state_now new ≡ Err e)

-- at the end nothing is left, so the state is the one after everything
abbrev pub EndsAt : Steps → Option (Result Step TransferError) → Type 0
EndsAt new (Some outcome) = ⊤
EndsAt new None = state_now new ≡ state_left new

-- what a call of `next` returns, and the iterator after it
pub record GivesNext (old : Steps) (result : Option (Result Step TransferError)) (new : Steps) : Type 0 where
  pub steps : YieldsFirstBy step_result steps_left old result new
  pub state : state_left new ≡ state_left old
  pub ended : EndsAt new result
  pub asked : asked_of new ≡ asked_of old

-- The steps of a message that a transfer takes: it has no error before its answer section, and each record of this is to come.
pub record TakesMessage (asked : Asked) (state : State) (b : List ℕ) (it : Steps) : Type 0 where
  pub no_error : error_before_answers asked state b ≡ None
  pub asks : asked_of it ≡ asked
  pub begins : state_now it ≡ Ok state
  pub records : BeginsSection Answer b (cursor_of it)
  pub left : run_left it ≡ run_of asked (records_of Answer b) state

-- The transfer after the steps of a message: in the state after all of them, or the error.
abbrev pub Finishes : Steps → Result Transfer TransferError → Type 0
Finishes it (Ok transfer) = (transfers.asked_of transfer ≡ asked_of it) × (state_left it ≡ Ok (transfers.state_of transfer))
Finishes it (Err e) = state_left it ≡ Err e
