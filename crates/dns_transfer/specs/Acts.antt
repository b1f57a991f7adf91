-- What the record at an offset does to a transfer, and what the records after it give. RFC 5936 section 2.2, RFC 1995 section 4.
use Rattle.std.specs.Prelude.{◌≡◌, ℕ, suc, if◌then◌else◌, List}
use Rattle.dns_item.specs.Items.{ReadsRecord}
use Rattle.dns_item.specs.ParsedRecord.{EncodedRecord, encoded_record, octets_of, parsed_entry}
use Rattle.dns_read.specs.RecordsFrom.{records_in}
use Rattle.dns_transfer.specs.Asked.{Asked}
use Rattle.dns_transfer.specs.Runs.{RunOf, after_step, step_of, stopped}
use Rattle.dns_transfer.specs.Steps.{run_of}
use Rattle.dns_transfer.specs.declared.error.TransferError.{TransferError}
use Rattle.dns_transfer.specs.declared.grammar.State.{State}
use Rattle.dns_transfer.specs.declared.record.Acted.{Acted}

-- what n records from an offset on give, from a state on
abbrev pub run_at : Asked → List ℕ → ℕ → ℕ → State → RunOf EncodedRecord
run_at asked b n p state = run_of asked (records_in b n p) state

-- The first of at least one record from an offset on, what it does, and the state after it. The records that are left begin after it, or at it if it only shows that the whole zone follows.
pub record ActsAt (asked : Asked) (b : List ℕ) (p : ℕ) (state : State) (it : Acted) : Type 0 where
  pub reads : ReadsRecord b p it.after (parsed_entry it.shown)
  pub octets : octets_of it.shown ≡ b
  pub gives : (n : ℕ) → run_at asked b (suc n) p state
      ≡ after_step (step_of it.act (encoded_record it.shown)) (if it.again then run_at asked b (suc n) p it.state else run_at asked b n it.after it.state)

-- the first of at least one record from an offset on gives this error
abbrev pub StopsAt : Asked → List ℕ → ℕ → State → TransferError → Type 0
StopsAt asked b p state e = (n : ℕ) → run_at asked b (suc n) p state ≡ stopped e
