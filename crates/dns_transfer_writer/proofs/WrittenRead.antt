-- What is written is read as the same transfer.
use Rattle.std.proofs.Common.{◌≡◌, ◌∙◌, ℕ, Bool, true, false, ap, sym, refl, subst, List, [], ◌∷◌, ◌++◌, map}
use Rattle.std.proofs.lemmas.List.{map-append}
use Rattle.std.specs.List.{AllByRecursion}
use Rattle.std.specs.Prelude.{Option, Result, Ok, Err}
use Rattle.dns_wire.specs.Encoders.{Rule}
use Rattle.dns_item.specs.Items.{RecordItem}
use Rattle.dns_item.specs.ParsedRecord.{EncodedRecord}
use Rattle.dns_name.specs.Names.{Fault}
use Rattle.dns_read.specs.SectionStarts.{records_of}
use Rattle.dns_read.specs.declared.section.Section.TheVariants.{Additional, Answer}
use Rattle.dns_build.specs.BuilderStates.{Built}
use Rattle.dns_build.specs.MessageOf.{EncodingsReadBack}
use Rattle.dns_build.specs.TypedReading.{PushedRecordsAreEncoded}
use Rattle.dns_transfer.specs.Asked.{Asked}
use Rattle.dns_transfer.specs.Forms.{continued, whole_reading, whole_steps}
use Rattle.dns_transfer.specs.Kinds.{kind_of}
use Rattle.dns_transfer.specs.Messages.{is_ended, is_wanted}
use Rattle.dns_transfer.specs.Runs.StepOf.{Begin, UpToDate, FallsBackToAxfr, Remove, Add, End}
use Rattle.dns_transfer.specs.Runs.{ItemOf, RunOf, StepOf, run, run_by}
use Rattle.dns_transfer.specs.Steps.{Item, run_of}
use Rattle.dns_transfer.specs.Transfers.{TransfersFrom}
use Rattle.dns_transfer.specs.Transfers.TransfersFrom.{message as takes, none as no_message}
use Rattle.dns_transfer.specs.declared.error.TransferError.{TransferError}
use Rattle.dns_transfer.specs.declared.grammar.Kind.{Kind}
use Rattle.dns_transfer.specs.declared.grammar.State.{State}
use Rattle.dns_transfer.specs.declared.grammar.State.TheVariants.{Wanted, First, Whole, Removing, Adding, Ended}
use Rattle.dns_transfer.proofs.theory.FormLemmas.{forms_read}
use Rattle.dns_transfer.proofs.theory.RunLemmas.{run-append}
use Rattle.dns_transfer_writer.specs.Messages.{Holds, Sending, message_state}
use Rattle.dns_transfer_writer.specs.Reading.{HasSoaData, IsQueryOf, Sent, WritesAll, WrittenIsRead, kind_of_item, step_with}
use Rattle.dns_transfer_writer.specs.Reading.WritesAll.{more, none}
use Rattle.dns_transfer_writer.proofs.ReadLemmas.{message-back, message-taken, nothing-read}
use Rattle.dns_transfer_writer.proofs.RunMaps.{EndsBegun, item_with, run-begun, run-with, run_with}
use Rattle.dns_transfer_writer.proofs.SentKinds.{SentRecord, all-sent, encoded_in, item_in, kinds-agree}

-- the two parts of a list
all-first : {X : Type 0} (P : X → Type 0) (xs ys : List X) → AllByRecursion P (xs ++ ys) → AllByRecursion P xs
all-first P [] ys h = tt
all-first P (x ∷ xs) ys h = (h.0, all-first P xs ys h.1)

all-later : {X : Type 0} (P : X → Type 0) (xs ys : List X) → AllByRecursion P (xs ++ ys) → AllByRecursion P ys
all-later P [] ys h = h
all-later P (x ∷ xs) ys h = all-later P xs ys h.1

-- Items over records in messages that are steps of a list, with items after them that are its other steps.
pub record AreSteps (items : List (ItemOf SentRecord)) (after : List (ItemOf RecordItem)) (steps : List (StepOf RecordItem)) : Type 0 where
  pub given : List (StepOf SentRecord)
  pub later : List (StepOf RecordItem)
  pub items_are : items ≡ whole_steps given
  pub after_are : after ≡ whole_steps later
  pub all : map (step_with item_in) given ++ later ≡ steps

-- Items that are steps of a list as values are steps.
steps-of : (items : List (ItemOf SentRecord)) (after : List (ItemOf RecordItem)) (steps : List (StepOf RecordItem)) → map (item_with item_in) items ++ after ≡ whole_steps steps
    → AreSteps items after steps
steps-of [] after steps is = record { given = []; later = steps; items_are = refl; after_are = is; all = refl }
steps-of (Ok step ∷ items) after [] is = absurd (cc is)
steps-of (Err e ∷ items) after [] is = absurd (cc is)
steps-of (Err e ∷ items) after (step ∷ steps) is = absurd (cc is)
steps-of (Ok step ∷ items) after (first ∷ steps) is =
    let same : step_with item_in step ≡ first = cc is in
    let rest : map (item_with item_in) items ++ after ≡ whole_steps steps = cc is in
    let others = steps-of items after steps rest in
    record {
      given = step ∷ others.given;
      later = others.later;
      items_are = ap (λ (xs : List (ItemOf SentRecord)). Ok step ∷ xs) others.items_are;
      after_are = others.after_are;
      all = λ i. same i ∷ others.all i;
    }

-- steps as items, of records in another form
whole-with : (given : List (StepOf SentRecord)) → map (item_with encoded_in) (whole_steps given) ≡ whole_steps (map (step_with encoded_in) given)
whole-with [] = refl
whole-with (step ∷ given) = ap (λ (xs : List Item). Ok (step_with encoded_in step) ∷ xs) (whole-with given)

-- What a run to the end continues with, after its first part.
pub record Continues (items : List (ItemOf RecordItem)) (end : Result State TransferError) (later : State → RunOf RecordItem) (steps : List (StepOf RecordItem)) : Type 0 where
  pub next : State
  pub ends : end ≡ Ok next
  pub items_are : items ++ (later next).0 ≡ whole_steps steps
  pub last : (later next).1 ≡ Ok Ended

continues : (items : List (ItemOf RecordItem)) (end : Result State TransferError) (later : State → RunOf RecordItem) (steps : List (StepOf RecordItem))
    → continued (items, end) later ≡ (whole_steps steps, Ok Ended) → Continues items end later steps
continues items (Ok next) later steps is = record { next = next; ends = refl; items_are = ap (λ (r : RunOf RecordItem). r.0) is; last = ap (λ (r : RunOf RecordItem). r.1) is }
continues items (Err e) later steps is =
    let end : (let r : Result State TransferError = Err e in r ≡ Ok Ended) = ap (λ (r : RunOf RecordItem). r.1) is in absurd (cc end)

-- no item is no step
no-steps : (steps : List (StepOf RecordItem)) → (let items : List (ItemOf RecordItem) = [] in items ≡ whole_steps steps) → [] ≡ steps
no-steps [] is = refl
no-steps (step ∷ steps) is = absurd (cc is)

module _ (asked : Asked) where
  -- what a record is, as a value and as it is read
  abbrev by_value : SentRecord → Result Kind TransferError
  by_value r = kind_of_item asked (item_in r)

  abbrev by_reading : SentRecord → Result Kind TransferError
  by_reading r = kind_of asked (encoded_in r)

  kinds-same : by_reading ≡ by_value
  kinds-same = λ i r. kinds-agree asked r i

  -- what records as values give
  abbrev runs_to : List RecordItem → State → RunOf RecordItem
  runs_to xs state = run (kind_of_item asked) asked.request (whole_reading xs) state

  -- records that are read to the end come before it
  waits : (x : RecordItem) (xs : List RecordItem) (state : State) (steps : List (StepOf RecordItem)) → runs_to (x ∷ xs) state ≡ (whole_steps steps, Ok Ended) → is_ended state ≡ false
  waits x xs Wanted steps is = refl
  waits x xs (First last) steps is = refl
  waits x xs (Whole last) steps is = refl
  waits x xs (Removing old last) steps is = refl
  waits x xs (Adding new last) steps is = refl
  waits x xs Ended steps is = absurd (never (kind_of_item asked x) (ap (λ (r : RunOf RecordItem). r.1) is))
    where
      never : (k : Result Kind TransferError) → (run_by (kind_of_item asked) asked.request x (runs_to xs) k Ended).1 ≡ Ok Ended → ⊥
      never (Ok k) end = cc end
      never (Err e) end = cc end

  module _ (query : List ℕ) (of : IsQueryOf asked query) (reads : EncodingsReadBack) (encoded : PushedRecordsAreEncoded) where
    -- what the messages from a state on give
    abbrev Reads : List (List ℕ) → State → List (StepOf RecordItem) → Type 0
    Reads bs state steps =
        (given : List (StepOf SentRecord)) × (map (step_with item_in) given ≡ steps) × TransfersFrom asked state bs (whole_steps (map (step_with encoded_in) given)) (Ok Ended)

    -- one message before those that are read
    module _ (capacity : Option ℕ) (rule : Rule) (begun : Bool) (limit : ℕ) (xs left : List RecordItem) (b : Built) (holds : Holds capacity rule begun limit query xs left b)
        (soa : AllByRecursion HasSoaData xs) (state : State) (started : begun ≡ true → is_wanted state ≡ false) (steps : List (StepOf RecordItem))
        (ends : runs_to xs state ≡ (whole_steps steps, Ok Ended)) (bs : List (List ℕ)) where
      one-read : ((next : State) (steps : List (StepOf RecordItem)) → is_wanted next ≡ false → runs_to left next ≡ (whole_steps steps, Ok Ended) → Reads bs next steps)
          → Reads (b.written.octets ∷ bs) state steps
      one-read later =
          let octets = b.written.octets in
          let back = message-back reads capacity rule begun limit query xs left b holds in
          let first : List RecordItem = holds.first ∷ holds.others in
          let sent = all-sent octets first (records_of Answer octets) (encoded (message_state begun limit query first) octets back Answer)
          (all-first HasSoaData first left (subst (AllByRecursion HasSoaData) holds.all soa)) in
          let rs : List SentRecord = sent.0 in
          let split : continued (runs_to first state) (runs_to left) ≡ (whole_steps steps, Ok Ended) =
          sym (run-append (kind_of_item asked) asked.request (whole_reading first) (whole_reading left) state)
          ∙ ap (λ (ys : List (Result RecordItem Fault)). run (kind_of_item asked) asked.request ys state)
          (sym (map-append (λ (r : RecordItem). let reading : Result RecordItem Fault = Ok r in reading) first left))
          ∙ ap (λ (ys : List RecordItem). runs_to ys state) (sym holds.all) ∙ ends in
          let run_there : RunOf SentRecord = run by_value asked.request (whole_reading rs) state in
          let as_values : runs_to first state ≡ run_with item_in run_there =
          ap (λ (ys : List RecordItem). runs_to ys state) (sym sent.1) ∙ run-with item_in (kind_of_item asked) asked.request rs state in
          let as_read : run_of asked (records_of Answer octets) state ≡ run_with encoded_in run_there =
          ap (λ (ys : List (Result EncodedRecord Fault)). run_of asked ys state) sent.2 ∙ run-with encoded_in (kind_of asked) asked.request rs state
          ∙ ap (λ (kind : SentRecord → Result Kind TransferError). run_with encoded_in (run kind asked.request (whole_reading rs) state)) kinds-same in
          let goes = continues (map (item_with item_in) run_there.0) run_there.1 (runs_to left) steps (ap (λ (r : RunOf RecordItem). continued r (runs_to left)) (sym as_values) ∙ split) in
          let are = steps-of run_there.0 (runs_to left goes.next).0 steps goes.items_are in
          let has_begun : is_wanted goes.next ≡ false =
          subst EndsBegun (ap (λ (r : RunOf RecordItem). r.1) as_values ∙ goes.ends) (run-begun (kind_of_item asked) asked.request holds.first holds.others state) in
          let others = later goes.next are.later has_begun (λ i. (are.after_are i, goes.last i)) in
          let taken = message-taken asked query of rule begun limit first octets back state
          (nothing-read octets (records_of Additional octets) (encoded (message_state begun limit query first) octets back Additional))
          (waits holds.first (holds.others ++ left) state steps (ap (λ (ys : List RecordItem). runs_to ys state) (sym holds.all) ∙ ends)) started in
          let items : (run_of asked (records_of Answer octets) state).0 ++ whole_steps (map (step_with encoded_in) others.0)
          ≡ whole_steps (map (step_with encoded_in) (are.given ++ others.0)) =
          ap (λ (r : RunOf EncodedRecord). r.0 ++ whole_steps (map (step_with encoded_in) others.0)) as_read
          ∙ ap (λ (ys : List (ItemOf SentRecord)). map (item_with encoded_in) ys ++ whole_steps (map (step_with encoded_in) others.0)) are.items_are
          ∙ ap (λ (ys : List Item). ys ++ whole_steps (map (step_with encoded_in) others.0)) (whole-with are.given)
          ∙ sym (map-append (λ (s : StepOf EncodedRecord). let item : Item = Ok s in item) (map (step_with encoded_in) are.given) (map (step_with encoded_in) others.0))
          ∙ ap (λ (ss : List (StepOf EncodedRecord)). whole_steps ss) (sym (map-append (step_with encoded_in) are.given others.0)) in (
            are.given ++ others.0,
            map-append (step_with item_in) are.given others.0 ∙ ap (λ (ss : List (StepOf RecordItem)). map (step_with item_in) are.given ++ ss) others.1 ∙ are.all,
            subst (λ (ys : List Item). TransfersFrom asked state (octets ∷ bs) ys (Ok Ended)) items
                (takes taken (ap (λ (r : RunOf EncodedRecord). r.1) as_read ∙ goes.ends) others.2),
          )

    -- All messages from a state on are read.
    all-read : {old : Sending} {bs : List (List ℕ)} → WritesAll old bs → old.query ≡ query → AllByRecursion HasSoaData old.left
        → (state : State) → (old.begun ≡ true → is_wanted state ≡ false) → (steps : List (StepOf RecordItem)) → runs_to old.left state ≡ (whole_steps steps, Ok Ended) → Reads bs state steps
    all-read (none is) asks soa state started steps ends =
        let end : runs_to [] state ≡ (whole_steps steps, Ok Ended) = ap (λ (ys : List RecordItem). runs_to ys state) (sym is) ∙ ends in
        ([], no-steps steps (ap (λ (r : RunOf RecordItem). r.0) end), subst (λ (r : Result State TransferError). TransfersFrom asked state [] [] r) (ap (λ (r : RunOf RecordItem). r.1) end) no_message)
    all-read (more capacity grows rule limit {old = old} {new = new} {b = b} {bs = bs} message writes) asks soa state started steps ends =
        let holds = subst (λ (q : List ℕ). Holds capacity rule old.begun limit q old.left new.left b) asks message.0 in
        one-read capacity rule old.begun limit old.left new.left b holds soa state started steps ends bs
        (λ next others begun reads_on. all-read writes (message.1 ∙ asks)
        (all-later HasSoaData (holds.first ∷ holds.others) new.left (subst (AllByRecursion HasSoaData) holds.all soa)) next (λ _. begun) others reads_on)

-- a step over records of a third form
step-with-with : {Y : Type 0} (f : Sent → Y) (step : StepOf SentRecord) → step_with f (step_with (λ (r : SentRecord). r.sent) step) ≡ step_with (λ (r : SentRecord). f r.sent) step
step-with-with f (Begin serial r) = refl
step-with-with f (UpToDate serial) = refl
step-with-with f FallsBackToAxfr = refl
step-with-with f (Remove r) = refl
step-with-with f (Add r) = refl
step-with-with f (End serial) = refl

-- steps without what is only known within this proof
abbrev plain-steps : List (StepOf SentRecord) → List (StepOf Sent)
plain-steps given = map (step_with (λ (r : SentRecord). r.sent)) given

plain : {Y : Type 0} (f : Sent → Y) (given : List (StepOf SentRecord)) → map (step_with f) (plain-steps given) ≡ map (step_with (λ (r : SentRecord). f r.sent)) given
plain f [] = refl
plain f (step ∷ given) = λ i. step-with-with f step i ∷ plain f given i

-- What is written is read as the same transfer.
pub written-is-read : EncodingsReadBack → PushedRecordsAreEncoded → WrittenIsRead
written-is-read reads encoded asked query xs steps bs of transfer soa writes =
    let given = all-read asked query of reads encoded writes refl soa Wanted (λ no. absurd (cc no)) steps
    (forms_read (kind_of_item asked) transfer) in (
      plain-steps given.0,
      plain (λ (r : Sent). r.item) given.0 ∙ given.1,
      subst (λ (ss : List (StepOf EncodedRecord)). TransfersFrom asked Wanted bs (whole_steps ss) (Ok Ended)) (sym (plain (λ (r : Sent). r.encoded) given.0)) given.2,
    )
