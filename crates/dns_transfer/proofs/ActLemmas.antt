-- What records give, by what is done with the first of them.
use Rattle.std.proofs.Common.{◌≡◌, ◌∙◌, ◌+◌, ◌<◌, ℕ, suc, Bool, true, false, ap, arith, length, subst, sym, List, [], ◌∷◌, map}
use Rattle.std.proofs.lemmas.Option.{slice_get_past}
use Rattle.std.specs.Prelude.{if◌then◌else◌, slice_get, Result, Ok, Err}
use Rattle.dns_octets.specs.declared.error.ParseError.{ParseError}
use Rattle.dns_octets.specs.declared.error.ParseError.TheVariants as errors
use Rattle.dns_name.specs.Names.{Fault, FaultAt, fault_of, head_at, head_of}
use Rattle.dns_name.specs.Names.Fault.{ShortInput}
use Rattle.dns_name.specs.Names.Faulty.{head}
use Rattle.dns_item.specs.AfterNames.{FieldsFaultAt}
use Rattle.dns_item.specs.Items.{ReadsRecord, RecordEntry, RecordFaultAt}
use Rattle.dns_item.specs.ParsedRecord.{EncodedRecord}
use Rattle.dns_read.specs.RecordsFrom.{in_octets, records_in}
use Rattle.dns_read.proofs.theory.RecordsFromLemmas.{records_from_are_read}
use Rattle.dns_transfer.specs.Asked.{Asked}
use Rattle.dns_transfer.specs.Grammar.{Outcome, advance, falls_back}
use Rattle.dns_transfer.specs.Kinds.{kind_of}
use Rattle.dns_transfer.specs.Runs.{RunOf, after_step, run_by, settled, step_of, stopped, taken}
use Rattle.dns_transfer.specs.Steps.{run_of}
use Rattle.dns_transfer.specs.declared.error.TransferError.{TransferError}
use Rattle.dns_transfer.specs.declared.error.TransferError.TheVariants.{Parse}
use Rattle.dns_transfer.specs.declared.grammar.Act.{Act}
use Rattle.dns_transfer.specs.declared.grammar.Kind.{Kind}
use Rattle.dns_transfer.specs.declared.grammar.State.{State}
use Rattle.dns_transfer.proofs.theory.RunLemmas.{run-again, run-known}
use Rattle.dns_transfer.specs.Acts.{StopsAt, run_at}
use Rattle.dns_transfer.proofs.KindLemmas.{error_of-fault_of}

past_head : (b : List ℕ) (p : ℕ) → length b < p → head_at b p ≡ Err ShortInput
unfolding head_at
past_head b p past = let gone = slice_get_past b p (omega arith) in ap (λ o. head_of o (slice_get b (p + 1))) gone

-- Past the end of the octets the fault of a record is the end.
pub past_end : (b : List ℕ) (p : ℕ) (e : ParseError) → length b < p → e ≡ errors.ShortInput → RecordFaultAt b p (fault_of e)
past_end b p e past short =
    let none : FaultAt b p ShortInput = head (past_head b p past) in
    subst (RecordFaultAt b p) (sym (ap fault_of short)) (FieldsFaultAt.name none)

-- at least one record from an offset on, where one is read
first_read : (b : List ℕ) (n p q : ℕ) (x : RecordEntry) → ReadsRecord b p q x → records_in b (suc n) p ≡ Ok (record { octets = b; entry = x }) ∷ records_in b n q
unfolding records_in
first_read b n p q x reads = ap (map (in_octets b)) ((records_from_are_read b).entry n p q x reads)

-- where none can be read
first_fault : (b : List ℕ) (n p : ℕ) (f : Fault) → RecordFaultAt b p f → records_in b (suc n) p ≡ Err f ∷ []
unfolding records_in
first_fault b n p f fault = ap (map (in_octets b)) ((records_from_are_read b).stop n p f fault)

-- A record that can't be read is an error.
pub unread_stops : (asked : Asked) (b : List ℕ) (p : ℕ) (state : State) (e : ParseError) → RecordFaultAt b p (fault_of e) → StopsAt asked b p state (Parse e)
unread_stops asked b p state e fault n =
    ap (λ xs. run_of asked xs state) (first_fault b n p (fault_of e) fault)
    ∙ ap (λ (f : ParseError). let r : RunOf EncodedRecord = stopped (Parse f) in r) (error_of-fault_of e)

module _ (asked : Asked) (b : List ℕ) (p q : ℕ) (x : EncodedRecord) (same : x.octets ≡ b) (reads : ReadsRecord b p q x.entry) (state : State) where
  -- the records from the offset on
  first_of : (n : ℕ) → records_in b (suc n) p ≡ Ok x ∷ records_in b n q
  first_of n = first_read b n p q x.entry reads ∙ (λ i. Ok (record { octets = sym same i; entry = x.entry }) ∷ records_in b n q)

  -- A record that the transfer may not have is an error.
  pub unknown_stops : (e : TransferError) → kind_of asked x ≡ Err e → StopsAt asked b p state e
  unknown_stops e is n =
      ap (λ xs. run_of asked xs state) (first_of n)
      ∙ ap (λ (known : Result Kind TransferError). run_by (kind_of asked) asked.request x (run_of asked (records_in b n q)) known state) is

  module _ (k : Kind) (is : kind_of asked x ≡ Ok k) where
    -- what the records give, by the outcome of the first
    by_outcome : (o : Outcome) → advance asked.request state k ≡ o → (n : ℕ)
        → run_at asked b (suc n) p state ≡ settled x (run_of asked (records_in b n q)) (λ next. advance asked.request next k) o
    by_outcome o does n =
        ap (λ xs. run_of asked xs state) (first_of n)
        ∙ run-known (kind_of asked) asked.request x (records_in b n q) state k is
        ∙ ap (settled x (run_of asked (records_in b n q)) (λ next. advance asked.request next k)) does

    -- A record that can't come next is an error.
    pub refused_stops : (e : TransferError) → advance asked.request state k ≡ Err e → StopsAt asked b p state e
    refused_stops e does n = by_outcome (Err e) does n

    -- what follows a step, by whether its record is taken again
    choice : ℕ → Act → State → Bool → RunOf EncodedRecord
    choice n act next again =
        after_step (step_of act x) (if again then taken x (run_of asked (records_in b n q)) (advance asked.request next k) else run_of asked (records_in b n q) next)

    -- A record that may come next is the first step.
    pub known_acts : (act : Act) (next : State) (again : Bool) → advance asked.request state k ≡ Ok (act, next) → again ≡ falls_back act → (n : ℕ)
        → run_at asked b (suc n) p state ≡ after_step (step_of act x) (if again then run_at asked b (suc n) p next else run_at asked b n q next)
    unfolding choice
    known_acts act next true does falls n =
        by_outcome (Ok (act, next)) does n
        ∙ ap (choice n act next) (sym falls)
        ∙ ap (after_step (step_of act x))
        (sym (ap (λ xs. run_of asked xs next) (first_of n) ∙ run-again (kind_of asked) asked.request x (records_in b n q) state k act next is does (sym falls)))
    known_acts act next false does falls n = by_outcome (Ok (act, next)) does n ∙ ap (choice n act next) (sym falls)
