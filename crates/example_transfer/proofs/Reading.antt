-- What is printed for messages, one after the other.
use Rattle.std.proofs.Common.{◌≡◌, ◌∙◌, ℕ, Bool, Option, Result, Ok, Err, List, [], ◌∷◌, ◌++◌, ap, refl, sym, subst, append-nil, append_assoc}
use Rattle.dns_message.specs.Messages.{records_of}
use Rattle.dns_message.specs.Sections.RecordSection.{position}
use Rattle.dns_message.specs.Streams.{BeginsWith, BeginsWithAll, IsPartial, Refuses}
use Rattle.dns_message.specs.Transfers.{Asked, IsTaken, TransfersFrom, RefusesMessage, State, none, message, stopped, refused, asked_of, state_of}
use Rattle.dns_message.specs.Transfers.Steps.{Finishes, Item, TakesMessage, cursor_of, run_of, state_left, steps_left, asked_of as asked_in}
use Rattle.dns_message.specs.declared.message.Section.TheVariants.{Answer}
use Rattle.dns_message.specs.declared.stream.FrameError.{FrameError}
use Rattle.dns_message.specs.declared.transfer.Steps.{Steps}
use Rattle.dns_message.specs.declared.transfer.Transfer.{Transfer}
use Rattle.dns_message.specs.declared.transfer.TransferError.{TransferError}
use Rattle.dns_message.proofs.CallerLemmas.{appends_none, no_frames, one_frame_more, start_found}
use Rattle.example_transfer.specs.Printed.{AreItemTexts, PrintsItems}
use Rattle.example_transfer.specs.Transfer.{Ends, PrintsMessage, PrintsTransfer, Reads}
use Rattle.example_transfer.specs.declared.transfer.Failure.{Failure}
use Rattle.example_transfer.specs.declared.transfer.Failure.TheVariants as failures
use Rattle.example_transfer.proofs.Printing.{both_printed}

-- a message that is refused has one item, its error, for which nothing is printed
pub message_refused : (by_ixfr : Bool) (kept : List ℕ) (asked : Asked) (state : State) (b : List ℕ) (old : Option (List ℕ)) (e : TransferError) → RefusesMessage asked state b e
    → PrintsMessage by_ixfr kept kept asked state b old old (Err (failures.Transfer e))
message_refused by_ixfr kept asked state b old e h = (Err e ∷ [], refused h, ([], AreItemTexts.more [] (refl, refl) AreItemTexts.none, appends_none old))

module _ (by_ixfr : Bool) (kept later : List ℕ) (asked : Asked) (state : State) (b : List ℕ) (it : Steps) (takes : TakesMessage asked state b it) (old new : Option (List ℕ))
    (printed : PrintsItems by_ixfr kept (steps_left it) later old new) where
  is_taken : IsTaken asked state b
  is_taken = record { no_error = takes.no_error; start = position (cursor_of it); starts = start_found Answer b (position (cursor_of it)) takes.records.start }

  run_printed : PrintsItems by_ixfr kept (run_of asked (records_of Answer b) state).0 later old new
  run_printed = subst (λ (items : List Item). PrintsItems by_ixfr kept items later old new) (ap (λ r. r.0) takes.left) printed

  module _ (after : Steps) (same : state_left after ≡ state_left it) where
    ended : {end : Result State TransferError} → state_left after ≡ end → (run_of asked (records_of Answer b) state).1 ≡ end
    ended h = ap (λ r. r.1) (sym takes.left) ∙ sym same ∙ h

    -- a message whose steps are printed, and the transfer after it
    pub message_read : (next : Transfer) → asked_in after ≡ asked_in it → Finishes after (Ok next) → PrintsMessage by_ixfr kept later asked state b old new (Ok next)
    message_read next asks h = (is_taken, h.0 ∙ asks ∙ takes.asks, ended h.1, run_printed)

    -- a message whose steps are printed up to an error
    pub message_stops : (e : TransferError) → Finishes after (Err e) → PrintsMessage by_ixfr kept later asked state b old new (Err (failures.Transfer e))
    message_stops e h = ((run_of asked (records_of Answer b) state).0, stopped is_taken (ended h), run_printed)

-- The first messages of a stream are read, and lead from the first state to this one: whatever later messages give is what they give after these. The texts of their items are printed.
pub record ReadsSome (by_ixfr : Bool) (kept : List ℕ) (asked : Asked) (first state : State) (stream rest : List ℕ) (old new : Option (List ℕ)) : Type 0 where
  pub messages : List (List ℕ)
  pub framed : BeginsWithAll stream messages rest
  pub items : List Item
  pub later : (bs : List (List ℕ)) (xs : List Item) (end : Result State TransferError) → TransfersFrom asked state bs xs end → TransfersFrom asked first (messages ++ bs) (items ++ xs) end
  pub printed : PrintsItems by_ixfr [] items kept old new

module _ (by_ixfr : Bool) (asked : Asked) (first : State) (stream : List ℕ) where
  -- no message is read at first
  pub none_read : (old : Option (List ℕ)) → ReadsSome by_ixfr [] asked first first stream stream old old
  none_read old = record {
    messages = [];
    framed = no_frames stream;
    items = [];
    later = λ bs xs end h. h;
    printed = ([], AreItemTexts.none, appends_none old);
  }

  module _ (kept : List ℕ) (state : State) (rest : List ℕ) (old new : Option (List ℕ)) (reads : ReadsSome by_ixfr kept asked first state stream rest old new) where
    -- the next message is read
    pub more_read : (last : List ℕ) (next : State) (b after : List ℕ) (newer : Option (List ℕ)) → BeginsWith rest b after → IsTaken asked state b
        → (run_of asked (records_of Answer b) state).1 ≡ Ok next → PrintsItems by_ixfr kept (run_of asked (records_of Answer b) state).0 last new newer
        → ReadsSome by_ixfr last asked first next stream after old newer
    more_read last next b after newer begins taken is printed =
        let given = (run_of asked (records_of Answer b) state).0 in
        record {
          messages = reads.messages ++ b ∷ [];
          framed = one_frame_more stream reads.messages rest b after reads.framed begins;
          items = reads.items ++ given;
          later = λ bs xs end h.
              subst (λ (ms : List (List ℕ)). TransfersFrom asked first ms ((reads.items ++ given) ++ xs) end) (sym (append_assoc reads.messages (b ∷ []) bs))
              (subst (λ (ys : List Item). TransfersFrom asked first (reads.messages ++ b ∷ bs) ys end) (sym (append_assoc reads.items given xs))
              (reads.later (b ∷ bs) (given ++ xs) end (message taken is h)));
          printed = both_printed by_ixfr reads.items given [] kept last old new newer reads.printed printed;
        }

    -- the next message has an error
    pub read_to_error : (last b after : List ℕ) (items : List Item) (e : TransferError) (newer : Option (List ℕ)) → BeginsWith rest b after → TransfersFrom asked state (b ∷ []) items (Err e)
        → PrintsItems by_ixfr kept items last new newer → Reads by_ixfr asked first stream old newer after (Err e)
    read_to_error last b after items e newer begins stops printed = record {
      messages = reads.messages ++ b ∷ [];
      framed = one_frame_more stream reads.messages rest b after reads.framed begins;
      items = reads.items ++ items;
      transferred = reads.later (b ∷ []) items (Err e) stops;
      kept = last;
      printed = both_printed by_ixfr reads.items items [] kept last old new newer reads.printed printed;
    }

    -- no further message is read
    pub all_read : Reads by_ixfr asked first stream old new rest (Ok state)
    all_read = record {
      messages = reads.messages;
      framed = reads.framed;
      items = reads.items;
      transferred =
          subst (λ (ms : List (List ℕ)). TransfersFrom asked first ms reads.items (Ok state)) (append-nil reads.messages)
          (subst (λ (xs : List Item). TransfersFrom asked first (reads.messages ++ []) xs (Ok state)) (append-nil reads.items) (reads.later [] [] (Ok state) none));
      kept = kept;
      printed = reads.printed;
    }

    module _ (other : Asked) (same : other ≡ asked) (b after : List ℕ) (newer : Option (List ℕ)) (begins : BeginsWith rest b after) where
      -- after a message that is printed
      pub after_message : (last : List ℕ) (next : Transfer) → PrintsMessage by_ixfr kept last other state b new newer (Ok next)
          → ReadsSome by_ixfr last asked first (state_of next) stream after old newer × (asked_of next ≡ asked)
      after_message last next h =
          let p = subst (λ (o : Asked). PrintsMessage by_ixfr kept last o state b new newer (Ok next)) same h in
          (more_read last (state_of next) b after newer begins p.0 p.2 p.3, p.1)

      -- after a failure
      pub after_failure : (last : List ℕ) (failure : Failure) → PrintsMessage by_ixfr kept last other state b new newer (Err failure)
          → PrintsTransfer by_ixfr asked first stream old newer (Err failure)
      after_failure last (failures.Frame e) h = absurd h
      after_failure last (failures.Transfer e) h =
          let p = subst (λ (o : Asked). PrintsMessage by_ixfr kept last o state b new newer (Err (failures.Transfer e))) same h in
          (after, read_to_error last b after p.0 e newer begins p.1 p.2)
      after_failure last failures.Cut h = absurd h
      after_failure last (failures.Printing e) h = tt

    -- at octets that are less than a frame
    pub at_end : (result : Result (Unit {0}) Failure) → IsPartial rest → Ends rest state result → PrintsTransfer by_ixfr asked first stream old new result
    at_end (Ok done) partial h = (rest, state, all_read, h)
    at_end (Err (failures.Frame e)) partial h = absurd h
    at_end (Err (failures.Transfer e)) partial h = absurd h
    at_end (Err failures.Cut) partial h = (rest, state, all_read, (partial, h))
    at_end (Err (failures.Printing e)) partial h = absurd h

    -- at a length that is refused
    pub at_refused : (e : FrameError) → Refuses 65537 rest e → PrintsTransfer by_ixfr asked first stream old new (Err (failures.Frame e))
    at_refused e h = (rest, state, all_read, h)
