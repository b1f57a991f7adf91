-- What the steps of a message have left, by what was done with the next record.
use Rattle.std.proofs.Common.{◌≡◌, ◌∙◌, ℕ, Bool, true, false, ap, sym, refl, subst, List, [], ◌∷◌, length, arith}
use Rattle.std.specs.Iterator.{YieldsFirstBy}
use Rattle.std.specs.Prelude.{if◌then◌else◌, Option, Some, None, Result, Ok, Err}
use Rattle.dns_name.specs.Names.{Fault, fault_of}
use Rattle.dns_octets.specs.declared.error.ParseError.{ParseError}
use Rattle.dns_item.specs.Items.{ReadsRecord}
use Rattle.dns_item.specs.ParsedData.{HasSpan}
use Rattle.dns_item.specs.ParsedRecord.{EncodedRecord, encoded_record, octets_of, parsed_entry}
use Rattle.dns_item.specs.declared.parsed_record.ParsedRecord.{ParsedRecord}
use Rattle.dns_read.specs.RecordSection.{record_result, records_left}
use Rattle.dns_read.specs.declared.record_section.RecordSection.{RecordSection}
use Rattle.dns_transfer.specs.Asked.{Asked}
use Rattle.dns_transfer.specs.Grammar.{Outcome, advance, falls_back}
use Rattle.dns_transfer.specs.Kinds.{kind_of}
use Rattle.dns_transfer.specs.Runs.{RunOf, step_of, after_step, taken, settled, stopped, run_by}
use Rattle.dns_transfer.specs.Steps.{run_of, step_result, asked_of, state_now, cursor_of, run_from, run_left, GivesFirst, ActsOn}
use Rattle.dns_transfer.specs.declared.error.TransferError.{TransferError}
use Rattle.dns_transfer.specs.declared.error.TransferError.TheVariants.{Parse}
use Rattle.dns_transfer.specs.declared.grammar.Act.{Act}
use Rattle.dns_transfer.specs.declared.grammar.Kind.{Kind}
use Rattle.dns_transfer.specs.declared.grammar.State.{State}
use Rattle.dns_transfer.specs.declared.steps.Step.{Step}
use Rattle.dns_transfer.specs.declared.steps.Steps.{Steps}
use Rattle.dns_transfer.proofs.KindLemmas.{error_of-fault_of}
use Rattle.dns_transfer.proofs.theory.RunLemmas.{run-known, run-again}

-- The RDATA of a record that was read lies within the octets.
pub read_span : (b : List ℕ) (p q : ℕ) (shown : ParsedRecord) → ReadsRecord b p q (parsed_entry shown) → octets_of shown ≡ b → HasSpan (encoded_record shown)
read_span b p q shown reads same =
    let end = reads.rdata_end in
    let within = reads.skips.within in
    let lengths = ap length same in
    record { start = omega arith; end = omega arith }

-- what is left, by what is asked for, the cursor and the state
pub left_by : (it : Steps) (asked : Asked) (cursor : RecordSection) (state : Result State TransferError) → asked_of it ≡ asked → cursor_of it ≡ cursor → state_now it ≡ state
    → run_left it ≡ run_from asked (records_left cursor) state
left_by it asked cursor state a c s = λ i. run_from (a i) (records_left (c i)) (s i)

-- After an error was kept, nothing is left.
pub stopped_left : (it : Steps) (e : TransferError) → state_now it ≡ Err e → run_left it ≡ ([], Err e)
stopped_left it e is = ap (run_from (asked_of it) (records_left (cursor_of it))) is

-- An error that is yielded and kept is all that records give.
pub gives_error : (all : RunOf EncodedRecord) (outcome : Result Step TransferError) (new : Steps) (e : TransferError) → all ≡ stopped e → step_result outcome ≡ Err e → state_now new ≡ Err e
    → GivesFirst all outcome new
gives_error all outcome new e is said kept =
    let left = stopped_left new e kept in (
      ap (λ (r : RunOf EncodedRecord). r.0) is ∙ (λ i. sym said i ∷ (sym left i).0),
      ap (λ (r : RunOf EncodedRecord). r.1) is ∙ ap (λ (r : RunOf EncodedRecord). r.1) (sym left),
    )

-- A step that is yielded is the first that records give, if the others are left.
pub gives_step : (all later : RunOf EncodedRecord) (outcome : Result Step TransferError) (new : Steps) (act : Act) (x : EncodedRecord) → all ≡ after_step (step_of act x) later
    → step_result outcome ≡ Ok (step_of act x) → run_left new ≡ later → GivesFirst all outcome new
gives_step all later outcome new act x is said left = (
  ap (λ (r : RunOf EncodedRecord). r.0) is ∙ (λ i. sym said i ∷ (sym left i).0),
  ap (λ (r : RunOf EncodedRecord). r.1) is ∙ ap (λ (r : RunOf EncodedRecord). r.1) (sym left),
)

module _ (old new : Steps) (x : EncodedRecord) (ahead : RecordSection) (first : records_left (cursor_of old) ≡ Ok x ∷ records_left ahead) (same : asked_of new ≡ asked_of old) where
  -- what is left after the next record, or before it if it is taken again
  left_after : (state : State) (k : Kind) (act : Act) (next : State) (b : Bool) → kind_of (asked_of old) x ≡ Ok k → advance (asked_of old).request state k ≡ Ok (act, next) → falls_back act ≡ b
      → state_now new ≡ Ok next → cursor_of new ≡ (if b then cursor_of old else ahead)
      → run_left new
      ≡ (if b then taken x (run_of (asked_of old) (records_left ahead)) (advance (asked_of old).request next k) else run_of (asked_of old) (records_left ahead) next)
  left_after state k act next true is does falls now there =
      left_by new (asked_of old) (cursor_of old) (Ok next) same there now
      ∙ ap (λ xs. run_of (asked_of old) xs next) first
      ∙ run-again (kind_of (asked_of old)) (asked_of old).request x (records_left ahead) state k act next is does falls
  left_after state k act next false is does falls now there = left_by new (asked_of old) ahead (Ok next) same there now

  -- What is done as the outcome of the next record says is the first that the records give.
  pub acts_first : (state : State) (k : Kind) (o : Outcome) (outcome : Result Step TransferError) → kind_of (asked_of old) x ≡ Ok k → advance (asked_of old).request state k ≡ o
      → ActsOn o x ahead old outcome new → GivesFirst (run_of (asked_of old) (Ok x ∷ records_left ahead) state) outcome new
  acts_first state k (Ok (act, next)) outcome is does acts =
      let xs = records_left ahead in
      let asked = asked_of old in
      gives_step (run_of asked (Ok x ∷ xs) state) (if falls_back act then taken x (run_of asked xs) (advance asked.request next k) else run_of asked xs next) outcome new act x
      (run-known (kind_of asked) asked.request x xs state k is ∙ ap (settled x (run_of asked xs) (λ n. advance asked.request n k)) does)
      acts.0 (left_after state k act next (falls_back act) is does refl acts.1 acts.2)
  acts_first state k (Err e) outcome is does acts =
      let xs = records_left ahead in
      let asked = asked_of old in
      gives_error (run_of asked (Ok x ∷ xs) state) outcome new e
      (run-known (kind_of asked) asked.request x xs state k is ∙ ap (settled x (run_of asked xs) (λ n. advance asked.request n k)) does)
      acts.0 acts.1

  -- A record that the transfer may not have is an error.
  pub refused_first : (state : State) (e : TransferError) (outcome : Result Step TransferError) → kind_of (asked_of old) x ≡ Err e → step_result outcome ≡ Err e → state_now new ≡ Err e
      → GivesFirst (run_of (asked_of old) (Ok x ∷ records_left ahead) state) outcome new
  refused_first state e outcome is said kept =
      let asked = asked_of old in
      gives_error (run_of asked (Ok x ∷ records_left ahead) state) outcome new e
      (ap (λ (known : Result Kind TransferError). run_by (kind_of asked) asked.request x (run_of asked (records_left ahead)) known state) is) said kept

-- A record that can't be read is an error.
pub fault_first : (asked : Asked) (xs : List (Result EncodedRecord Fault)) (state : State) (e : ParseError) → run_of asked (Err (fault_of e) ∷ xs) state ≡ stopped (Parse e)
fault_first asked xs state e = ap (λ (f : ParseError). let r : RunOf EncodedRecord = stopped (Parse f) in r) (error_of-fault_of e)

-- What is left, if the records that are left are these and the state is this.
pub left_of : (it : Steps) (xs : List (Result EncodedRecord Fault)) (state : State) → records_left (cursor_of it) ≡ xs → state_now it ≡ Ok state → run_left it ≡ run_of (asked_of it) xs state
left_of it xs state records now = λ i. run_from (asked_of it) (records i) (now i)

module _ (old new : RecordSection) (o : Option (Result ParsedRecord ParseError)) (yields : YieldsFirstBy record_result records_left old o new) where
  -- A record that the cursor yielded was the next.
  pub given_record : (shown : ParsedRecord) → o ≡ Some (Ok shown) → records_left old ≡ Ok (encoded_record shown) ∷ records_left new
  given_record shown is = subst (λ (r : Option (Result ParsedRecord ParseError)). YieldsFirstBy record_result records_left old r new) is yields

  -- A fault that the cursor yielded was the next.
  pub given_fault : (e : ParseError) → o ≡ Some (Err e) → records_left old ≡ Err (fault_of e) ∷ records_left new
  given_fault e is = subst (λ (r : Option (Result ParsedRecord ParseError)). YieldsFirstBy record_result records_left old r new) is yields

  -- If it yielded nothing, nothing was left.
  pub given_none : o ≡ None → records_left old ≡ []
  given_none is = (subst (λ (r : Option (Result ParsedRecord ParseError)). YieldsFirstBy record_result records_left old r new) is yields).0
