-- What is printed of the messages of a transfer in a stream, and how it ends. RFC 1035 section 4.2.2, RFC 5936 section 2.2, RFC 1995 section 4.
use Rattle.std.specs.Prelude.{◌≡◌, ℕ, Bool, true, List, [], ◌∷◌, length, Option, Result, Ok, Err}
use Rattle.dns_message.specs.Messages.{records_of}
use Rattle.dns_message.specs.Streams.{BeginsWithAll, IsPartial, Refuses}
use Rattle.dns_message.specs.declared.message.Section.TheVariants.{Answer}
use Rattle.dns_message.specs.declared.transfer.Transfer.{Transfer}
use Rattle.dns_message.specs.declared.transfer.TransferError.{TransferError}
use Rattle.dns_message.specs.Transfers.{Asked, is_ended, IsTaken, TransfersFrom, State, asked_of, state_of}
use Rattle.dns_message.specs.Transfers.Steps.{Item, run_of}
use Rattle.example_transfer.specs.Printed.{PrintsItems}
use Rattle.example_transfer.specs.declared.transfer.Failure.{Failure}
use Rattle.example_transfer.specs.declared.transfer.Failure.TheVariants as failures

-- The first messages of a stream give a transfer these items from a state on, and this end: the state after them, or the error. The texts of the items are printed, by IXFR or not.
-- These octets are left.
pub record Reads (by_ixfr : Bool) (asked : Asked) (state : State) (stream : List ℕ) (old new : Option (List ℕ)) (rest : List ℕ) (end : Result State TransferError) : Type 0 where
  pub messages : List (List ℕ)
  pub framed : BeginsWithAll stream messages rest
  pub items : List Item
  pub transferred : TransfersFrom asked state messages items end
  pub kept : List ℕ
  pub printed : PrintsItems by_ixfr [] items kept old new

-- the same without an error, and something holds of the octets that are left and of the state
abbrev pub ReadsUpTo : Bool → Asked → State → List ℕ → Option (List ℕ) → Option (List ℕ) → (List ℕ → State → Type 0) → Type 0
ReadsUpTo by_ixfr asked state stream old new Holds = (rest : List ℕ) × (last : State) × Reads by_ixfr asked state stream old new rest (Ok last) × Holds rest last

-- at the end of a stream nothing is left and the transfer has ended, or it is cut off
abbrev pub Ends : List ℕ → State → Result (Unit {0}) Failure → Type 0
Ends rest last (Ok _) = (length rest ≡ 0) × (is_ended last ≡ true)
Ends rest last (Err failures.Cut) = length rest ≡ 0 → is_ended last ≡ true → ⊥
Ends rest last _ = ⊥

-- What is printed for a stream, by what is returned: the steps of all messages of a complete transfer, or those up to the first failure. No frame is too long: 65,537 octets is the greatest length.
abbrev pub PrintsTransfer : Bool → Asked → State → List ℕ → Option (List ℕ) → Option (List ℕ) → Result (Unit {0}) Failure → Type 0
PrintsTransfer by_ixfr asked state stream old new (Ok done) = ReadsUpTo by_ixfr asked state stream old new (λ rest last. Ends rest last (Ok done))
PrintsTransfer by_ixfr asked state stream old new (Err failures.Cut) = ReadsUpTo by_ixfr asked state stream old new (λ rest last. IsPartial rest × Ends rest last (Err failures.Cut))
PrintsTransfer by_ixfr asked state stream old new (Err (failures.Frame e)) = ReadsUpTo by_ixfr asked state stream old new (λ rest last. Refuses 65537 rest e)
PrintsTransfer by_ixfr asked state stream old new (Err (failures.Transfer e)) = (rest : List ℕ) × Reads by_ixfr asked state stream old new rest (Err e)
PrintsTransfer by_ixfr asked state stream old new (Err (failures.Printing e)) = Unit {0}

-- What is printed for a message, by what was kept before and is kept then, and by what is returned: the transfer after it, or the error. Printing may fail.
abbrev pub PrintsMessage : Bool → List ℕ → List ℕ → Asked → State → List ℕ → Option (List ℕ) → Option (List ℕ) → Result Transfer Failure → Type 0
PrintsMessage by_ixfr kept later asked state b old new (Ok next) =
    IsTaken asked state b × (asked_of next ≡ asked) × ((run_of asked (records_of Answer b) state).1 ≡ Ok (state_of next))
    × PrintsItems by_ixfr kept (run_of asked (records_of Answer b) state).0 later old new
PrintsMessage by_ixfr kept later asked state b old new (Err (failures.Transfer e)) =
    (items : List Item) × TransfersFrom asked state (b ∷ []) items (Err e) × PrintsItems by_ixfr kept items later old new
PrintsMessage by_ixfr kept later asked state b old new (Err (failures.Printing e)) = Unit {0}
PrintsMessage by_ixfr kept later asked state b old new (Err _) = ⊥
