-- Runs over records of another form, and the states after them.
use Rattle.std.proofs.Common.{◌≡◌, Bool, true, false, refl, List, [], ◌∷◌, map}
use Rattle.std.specs.Bool.{⊤}
use Rattle.std.specs.Prelude.{◌==◌, if◌then◌else◌, Result, Ok, Err}
use Rattle.dns_transfer.specs.Forms.{whole_reading}
use Rattle.dns_transfer.specs.Grammar.{Outcome, advance, after_added, falls_back}
use Rattle.dns_transfer.specs.Messages.{is_wanted}
use Rattle.dns_transfer.specs.Runs.{ItemOf, RunOf, step_of, after_step, taken, settled, run_by, run}
use Rattle.dns_transfer.specs.Serials.{is_greater}
use Rattle.dns_transfer.specs.declared.error.TransferError.{TransferError}
use Rattle.dns_transfer.specs.declared.error.TransferError.TheVariants.{WrongSoa}
use Rattle.dns_transfer.specs.declared.grammar.Request.{Request}
use Rattle.dns_transfer.specs.declared.grammar.Request.TheVariants.{Axfr, Ixfr}
use Rattle.dns_transfer.specs.declared.grammar.State.{State}
use Rattle.dns_transfer.specs.declared.grammar.State.TheVariants.{Wanted, First, Whole, Removing, Adding, Ended}
use Rattle.dns_transfer.specs.declared.grammar.Kind.{Kind}
use Rattle.dns_transfer.specs.declared.grammar.Kind.TheVariants.{Soa, Other}
use Rattle.dns_transfer.specs.declared.grammar.Act.{Act}
use Rattle.dns_transfer.specs.declared.grammar.Act.TheVariants.{Begin, UpToDate, FallBack, Remove, Add, End}
use Rattle.dns_transfer_writer.specs.Reading.{step_with}

module _ {X Y : Type 0} (f : X → Y) where
  -- an item over records of another form
  abbrev pub item_with : ItemOf X → ItemOf Y
  item_with (Ok step) = Ok (step_with f step)
  item_with (Err e) = Err e

  -- what a run over records of another form gives
  abbrev pub run_with : RunOf X → RunOf Y
  run_with given = (map item_with given.0, given.1)

  -- the step of a record of another form
  step_of-with : (act : Act) (r : X) → step_of act (f r) ≡ step_with f (step_of act r)
  step_of-with (Begin serial) r = refl
  step_of-with (UpToDate serial) r = refl
  step_of-with FallBack r = refl
  step_of-with Remove r = refl
  step_of-with Add r = refl
  step_of-with (End serial) r = refl

  -- a step before what follows
  after_step-with : (act : Act) (r : X) (given : RunOf Y) (later : RunOf X) → given ≡ run_with later → after_step (step_of act (f r)) given ≡ run_with (after_step (step_of act r) later)
  after_step-with act r given later same = λ i. after_step (step_of-with act r i) (same i)

  module _ (r : X) (given : State → RunOf Y) (later : State → RunOf X) (same : (state : State) → given state ≡ run_with (later state)) where
    -- a record that is taken
    taken-with : (o : Outcome) → taken (f r) given o ≡ run_with (taken r later o)
    taken-with (Ok (act, state)) = after_step-with act r (given state) (later state) (same state)
    taken-with (Err e) = refl

    -- a record that may be taken again
    settled-with : (again : State → Outcome) (o : Outcome) → settled (f r) given again o ≡ run_with (settled r later again o)
    settled-with again (Ok (act, state)) =
        after_step-with act r (if falls_back act then taken (f r) given (again state) else given state) (if falls_back act then taken r later (again state) else later state)
        (choice (falls_back act))
      where
        choice : (b : Bool) → (if b then taken (f r) given (again state) else given state) ≡ run_with (if b then taken r later (again state) else later state)
        choice true = taken-with (again state)
        choice false = same state
    settled-with again (Err e) = refl

  module _ (kind : Y → Result Kind TransferError) (request : Request) where
    -- a record by its kind
    by-with : (r : X) (given : State → RunOf Y) (later : State → RunOf X) → ((state : State) → given state ≡ run_with (later state)) → (k : Result Kind TransferError) (state : State)
        → run_by kind request (f r) given k state ≡ run_with (run_by (λ x. kind (f x)) request r later k state)
    by-with r given later same (Ok k) state = settled-with r given later same (λ next. advance request next k) (advance request state k)
    by-with r given later same (Err e) state = refl

    -- Records of another form give the same steps over that form.
    pub run-with : (rs : List X) (state : State) → run kind request (whole_reading (map f rs)) state ≡ run_with (run (λ x. kind (f x)) request (whole_reading rs) state)
    run-with [] state = refl
    run-with (r ∷ rs) state =
        by-with r (run kind request (whole_reading (map f rs))) (run (λ x. kind (f x)) request (whole_reading rs)) (run-with rs) (kind (f r)) state

-- an outcome leaves a state in which the transfer has begun
abbrev pub HasBegun : Outcome → Type 0
HasBegun (Ok (act, next)) = is_wanted next ≡ false
HasBegun (Err e) = ⊤

-- a choice between two such outcomes
chosen-begun : (b : Bool) (x y : Outcome) → HasBegun x → HasBegun y → HasBegun (if b then x else y)
chosen-begun true x y h k = h
chosen-begun false x y h k = k

-- the same of a pair
pair-begun : (b : Bool) (x y : Act × State) → HasBegun (Ok x) → HasBegun (Ok y) → HasBegun (Ok (if b then x else y))
pair-begun true x y h k = h
pair-begun false x y h k = k

-- After a record the transfer has begun.
advance-begun : (request : Request) (state : State) (k : Kind) → HasBegun (advance request state k)
advance-begun Axfr Wanted (Soa serial) = refl
advance-begun (Ixfr known) Wanted (Soa serial) = pair-begun (is_greater serial known) (Begin serial, First serial) (UpToDate serial, Ended) refl refl
advance-begun request Wanted Other = tt
advance-begun Axfr (First last) k = refl
advance-begun (Ixfr known) (First last) Other = refl
advance-begun (Ixfr known) (First last) (Soa serial) = pair-begun (serial == known) (Remove, Removing serial last) (FallBack, Whole last) refl refl
advance-begun request (Whole last) Other = refl
advance-begun request (Whole last) (Soa serial) = chosen-begun (serial == last) (Ok (End serial, Ended)) (Err WrongSoa) refl tt
advance-begun request (Removing old last) Other = refl
advance-begun request (Removing old last) (Soa serial) = chosen-begun (is_greater serial old) (Ok (Add, Adding serial last)) (Err WrongSoa) refl tt
advance-begun request (Adding new last) Other = refl
advance-begun request (Adding new last) (Soa serial) =
    chosen-begun (serial == new) (Ok (after_added serial last)) (Err WrongSoa) (pair-begun (serial == last) (End serial, Ended) (Remove, Removing serial last) refl refl) tt
advance-begun request Ended k = tt

-- the end of a run is a state in which the transfer has begun, or an error
abbrev pub EndsBegun : Result State TransferError → Type 0
EndsBegun (Ok next) = is_wanted next ≡ false
EndsBegun (Err e) = ⊤

module _ {R : Type 0} where
  module _ (r : R) (later : State → RunOf R) (begun : (state : State) → is_wanted state ≡ false → EndsBegun (later state).1) where
    taken-begun : (o : Outcome) → HasBegun o → EndsBegun (taken r later o).1
    taken-begun (Ok (act, state)) h = begun state h
    taken-begun (Err e) h = tt

    settled-begun : (again : State → Outcome) → ((state : State) → HasBegun (again state)) → (o : Outcome) → HasBegun o → EndsBegun (settled r later again o).1
    settled-begun again all (Ok (act, state)) h = choice (falls_back act)
      where
        choice : (b : Bool) → EndsBegun (if b then taken r later (again state) else later state).1
        choice true = taken-begun (again state) (all state)
        choice false = begun state h
    settled-begun again all (Err e) h = tt

  module _ (kind : R → Result Kind TransferError) (request : Request) where
    by-begun : (r : R) (later : State → RunOf R) → ((state : State) → is_wanted state ≡ false → EndsBegun (later state).1) → (k : Result Kind TransferError) (state : State)
        → EndsBegun (run_by kind request r later k state).1
    by-begun r later begun (Ok k) state = settled-begun r later begun (λ next. advance request next k) (λ next. advance-begun request next k) (advance request state k) (advance-begun request state k)
    by-begun r later begun (Err e) state = tt

    -- Once a transfer has begun, it stays so.
    stays-begun : (rs : List R) (state : State) → is_wanted state ≡ false → EndsBegun (run kind request (whole_reading rs) state).1
    stays-begun [] state h = h
    stays-begun (r ∷ rs) state h = by-begun r (run kind request (whole_reading rs)) (stays-begun rs) (kind r) state

    -- After one record or more a transfer has begun.
    pub run-begun : (r : R) (rs : List R) (state : State) → EndsBegun (run kind request (whole_reading (r ∷ rs)) state).1
    run-begun r rs state = by-begun r (run kind request (whole_reading rs)) (stays-begun rs) (kind r) state
