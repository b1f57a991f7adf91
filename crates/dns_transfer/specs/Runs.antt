-- What consecutive records of a transfer give: steps, and at the end a state or an error. RFC 5936 section 2.2, RFC 1995 section 4.
use Rattle.std.specs.Prelude.{ℕ, if◌then◌else◌, List, [], ◌∷◌, Result, Ok, Err}
use Rattle.dns_name.specs.Names.{Fault}
use Rattle.dns_transfer.specs.Errors.{error_of}
use Rattle.dns_transfer.specs.Grammar.{Outcome, advance, falls_back}
use Rattle.dns_transfer.specs.declared.error.TransferError.{TransferError}
use Rattle.dns_transfer.specs.declared.error.TransferError.TheVariants.{Parse}
use Rattle.dns_transfer.specs.declared.grammar.Request.{Request}
use Rattle.dns_transfer.specs.declared.grammar.State.{State}
use Rattle.dns_transfer.specs.declared.grammar.Kind.{Kind}
use Rattle.dns_transfer.specs.declared.grammar.Act.{Act}
use Rattle.dns_transfer.specs.declared.grammar.Act.TheVariants as acts

-- a step, over records of any form
pub data StepOf (R : Type 0) : Type 0 where
  Begin : ℕ → R → StepOf R
  UpToDate : ℕ → StepOf R
  FallsBackToAxfr : StepOf R
  Remove : R → StepOf R
  Add : R → StepOf R
  End : ℕ → StepOf R

-- what is yielded: a step, or the error that is last
abbrev pub ItemOf : Type 0 → Type 0
ItemOf R = Result (StepOf R) TransferError

-- what is yielded, and the state after it or the error
abbrev pub RunOf : Type 0 → Type 0
RunOf R = List (ItemOf R) × Result State TransferError

module _ {R : Type 0} where
  -- the step of a record
  abbrev pub step_of : Act → R → StepOf R
  step_of (acts.Begin serial) r = Begin serial r
  step_of (acts.UpToDate serial) r = UpToDate serial
  step_of acts.FallBack r = FallsBackToAxfr
  step_of acts.Remove r = Remove r
  step_of acts.Add r = Add r
  step_of (acts.End serial) r = End serial

  -- an error is yielded, and then nothing
  abbrev pub stopped : TransferError → RunOf R
  stopped e = (Err e ∷ [], Err e)

  -- a step is yielded before what follows
  abbrev pub after_step : StepOf R → RunOf R → RunOf R
  after_step step later = (Ok step ∷ later.0, later.1)

  -- A record is taken: its step is yielded, and then what the later records give.
  abbrev pub taken : R → (State → RunOf R) → Outcome → RunOf R
  taken r later (Ok (act, state)) = after_step (step_of act r) (later state)
  taken r later (Err e) = stopped e

  -- The same, but a record that only shows that the whole zone follows is taken again, in the state after that.
  abbrev pub settled : R → (State → RunOf R) → (State → Outcome) → Outcome → RunOf R
  settled r later again (Ok (act, state)) = after_step (step_of act r) (if falls_back act then taken r later (again state) else later state)
  settled r later again (Err e) = stopped e

  module _ (kind : R → Result Kind TransferError) (request : Request) where
    -- a record of this kind, and then the later records
    abbrev pub run_by : R → (State → RunOf R) → Result Kind TransferError → State → RunOf R
    run_by r later (Ok k) state = settled r later (λ next. advance request next k) (advance request state k)
    run_by r later (Err e) state = stopped e

    -- records from a state on, up to the first error or fault
    abbrev pub run : List (Result R Fault) → State → RunOf R
    run [] state = ([], Ok state)
    run (Ok r ∷ xs) state = run_by r (run xs) (kind r) state
    run (Err f ∷ xs) state = stopped (Parse (error_of f))
