-- What the messages of a transfer give, one after the other: items, and at the end a state or an error. RFC 5936 section 2.2, RFC 1995 section 4.
--
-- In the state `Ended` the transfer is finished, in another it waits for the next message.
use Rattle.std.specs.Prelude.{◌≡◌, ℕ, ◌⊎◌, List, [], ◌∷◌, ◌++◌, Some, None, Result, Ok, Err}
use Rattle.dns_read.specs.SectionStarts.{start_of, records_of}
use Rattle.dns_read.specs.declared.section.Section.TheVariants.{Answer}
use Rattle.dns_transfer.specs.Asked.{Asked}
use Rattle.dns_transfer.specs.Messages.{RefusesMessage, error_before_answers}
use Rattle.dns_transfer.specs.Steps.{Item, run_of}
use Rattle.dns_transfer.specs.declared.error.TransferError.{TransferError}
use Rattle.dns_transfer.specs.declared.grammar.State.{State}
use Rattle.dns_transfer.specs.declared.grammar.State.TheVariants.{Ended}

-- a message without an error before its answer section, which has a start
pub record IsTaken (asked : Asked) (state : State) (b : List ℕ) : Type 0 where
  pub no_error : error_before_answers asked state b ≡ None
  pub start : ℕ
  pub starts : start_of Answer b ≡ Some start

-- what messages give from a state on, up to the first error
pub data TransfersFrom (asked : Asked) : State → List (List ℕ) → List Item → Result State TransferError → Type 0 where
  none : {state : State} → TransfersFrom asked state [] [] (Ok state)
  message : {state next : State} {b : List ℕ} {bs : List (List ℕ)} {items : List Item} {end : Result State TransferError}
      → IsTaken asked state b → (run_of asked (records_of Answer b) state).1 ≡ Ok next → TransfersFrom asked next bs items end
      → TransfersFrom asked state (b ∷ bs) ((run_of asked (records_of Answer b) state).0 ++ items) end
  stopped : {state : State} {b : List ℕ} {bs : List (List ℕ)} {e : TransferError}
      → IsTaken asked state b → (run_of asked (records_of Answer b) state).1 ≡ Err e
      → TransfersFrom asked state (b ∷ bs) (run_of asked (records_of Answer b) state).0 (Err e)
  refused : {state : State} {b : List ℕ} {bs : List (List ℕ)} {e : TransferError}
      → RefusesMessage asked state b e
      → TransfersFrom asked state (b ∷ bs) (Err e ∷ []) (Err e)

-- A message is taken, or it is refused with one error, never both.
pub record TakenOrRefused : Type 0 where
  pub some : (asked : Asked) (state : State) (b : List ℕ) → IsTaken asked state b ⊎ ((e : TransferError) × RefusesMessage asked state b e)
  pub not_both : (asked : Asked) (state : State) (b : List ℕ) (e : TransferError) → IsTaken asked state b → RefusesMessage asked state b e → ⊥
  pub one_error : (asked : Asked) (state : State) (b : List ℕ) (e f : TransferError) → RefusesMessage asked state b e → RefusesMessage asked state b f → e ≡ f

-- Messages give a list of items, and an end.
abbrev pub SomeTransfer : Type 0
SomeTransfer = (asked : Asked) (state : State) (bs : List (List ℕ)) → (items : List Item) × (end : Result State TransferError) × TransfersFrom asked state bs items end

-- Messages give at most one list of items, and one end: a finished transfer, one that waits for more, or one error.
abbrev pub OneTransfer : Type 0
OneTransfer = (asked : Asked) (state : State) (bs : List (List ℕ)) (xs ys : List Item) (end other : Result State TransferError)
    → TransfersFrom asked state bs xs end → TransfersFrom asked state bs ys other → (xs ≡ ys) × (end ≡ other)

-- After the end no message is taken.
abbrev pub NothingFollows : Type 0
NothingFollows = (asked : Asked) (b : List ℕ) → IsTaken asked Ended b → ⊥
