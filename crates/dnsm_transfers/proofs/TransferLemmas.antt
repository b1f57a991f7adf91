-- What a transfer asks for, its state, and what the records at a cursor give.
use Rattle.std.proofs.Common.{◌≡◌, ◌∙◌, ◌-◌, ◌<◌, ◌≤◌, ℕ, suc, Bool, true, false, ap, arith, inl, inr, length, refl, subst, sym, zero, List, []}
use Rattle.std.proofs.lemmas.Bool.{true≢false}
use Rattle.std.proofs.lemmas.Bool.Decides.{leb_tells}
use Rattle.std.specs.Int.{from_bool}
use Rattle.std.specs.Option.{option_map_or}
use Rattle.std.specs.Prelude.{◌==◌, if◌then◌else◌, Option, None, Some, is_some, unwrap_or}
use Rattle.dns_name.proofs.theory.NameLemmas.{labels_of_octets}
use Rattle.dns_code.specs.HeaderSection.{header_size}
use Rattle.dns_item.specs.ParsedRecord.{encoded_record}
use Rattle.dns_read.specs.RecordsFrom.{records_in}
use Rattle.dns_read.specs.SectionStarts.{records_of}
use Rattle.dns_read.specs.Sections.{StartsAt, answer_count, record_count}
use Rattle.dns_read.specs.declared.section.Section.TheVariants.{Answer}
use Rattle.dns_read.proofs.theory.SectionStartLemmas.{start_found}
use Rattle.dns_transfer.specs.Acts.{ActsAt, StopsAt, run_at}
use Rattle.dns_transfer.specs.Asked.{Asked, asked_by}
use Rattle.dns_transfer.specs.Messages.{error_before_answers}
use Rattle.dns_transfer.specs.Runs.{after_step, step_of, stopped}
use Rattle.dns_transfer.specs.declared.error.TransferError.{TransferError}
use Rattle.dns_transfer.specs.declared.grammar.Request.{Request}
use Rattle.dns_transfer.specs.declared.grammar.Request.TheVariants.{Axfr, Ixfr}
use Rattle.dns_transfer.specs.declared.grammar.State.{State}
use Rattle.dns_transfer.specs.declared.query.Query.{Query}
use Rattle.dns_transfer.specs.declared.record.Acted.{Acted}
use Rattle.dnsm_read.specs.Steps.{ReportsRecord}
use Rattle.dnsm_read.specs.declared.walk.Cursor.{Cursor}
use Rattle.dnsm_transfers.specs.Transfers.{GivesError, GivesStep, IsAskedBy, OpensMessage, ReportsTransfer, act_number, act_serial, request_from, run_left, zone_octets}
use Rattle.dnsm_transfers.specs.declared.step.Step.{Step}
use Rattle.dnsm_transfers.specs.declared.transfer.Transfer.{Transfer}

-- Octets have a header section if they can't be shorter than one.
pub is_long : (b : List ℕ) → (length b < header_size → false ≡ true) → header_size ≤ length b
is_long b short = elim (leb_tells header_size (length b)) [
  | inl long ↦ long.1
  | inr less ↦ absurd (true≢false (sym (short less.1)))
]

-- The numbers of what is asked for say whether there is a known version, and which.
pub asks_for : (known : Option ℕ) (some : Bool) (number serial : ℕ) → some ≡ is_some known → number ≡ from_bool some → serial ≡ unwrap_or known 0
    → (if number == 0 then Axfr else Ixfr serial) ≡ request_from known
asks_for None some number serial tells is value = ap (λ (n : ℕ). let r : Request = if n == 0 then Axfr else Ixfr serial in r) (is ∙ ap from_bool tells)
asks_for (Some known) some number serial tells is value =
    ap (λ (n : ℕ). let r : Request = if n == 0 then Axfr else Ixfr serial in r) (is ∙ ap from_bool tells) ∙ ap (λ (n : ℕ). let r : Request = Ixfr n in r) value

-- A transfer asks for one thing.
pub one_asked : (t : Transfer) (query : Query) (asked : Asked) → IsAskedBy t (asked_by query) → IsAskedBy t asked → asked ≡ asked_by query
one_asked t query asked own other =
    let zone = labels_of_octets query.zone asked.zone (zone_octets t) own.zone other.zone in
    let class = other.class ∙ sym own.class in
    let id = other.id ∙ sym own.id in
    let request = other.request ∙ sym own.request in
    λ i. record { zone = zone i; class = class i; id = id i; request = request i }

-- the records after the start of the answer section
records_there : (b : List ℕ) (place left : ℕ) → StartsAt Answer b place → left ≡ answer_count b → records_in b left place ≡ records_of Answer b
records_there b place left start count =
    ap (λ n. records_in b n place) count
    ∙ sym (ap (λ (o : Option ℕ). option_map_or (records_in b (record_count Answer b)) o []) (start_found Answer b place start))

-- A message without an error before its answer section is opened.
pub opens : (asked own : Asked) (state st : State) (b m : List ℕ) (cursor : Cursor) → asked ≡ own → st ≡ state → m ≡ b → error_before_answers own st m ≡ None → StartsAt Answer m cursor.place
    → cursor.left ≡ answer_count m → cursor.section ≡ 1 → cursor.status ≡ 0 → cursor.owner ≡ 0 → OpensMessage asked state b cursor
opens asked own state st b m cursor same now seen no_error start count section status owner =
    let there : OpensMessage own st m cursor =
    record {
      taken = record { no_error = no_error; start = cursor.place; starts = start_found Answer m cursor.place start };
      records = records_there m cursor.place cursor.left start count;
      section = section;
      status = status;
      owner = owner;
    } in
    subst (λ (a : Asked). OpensMessage a state b cursor) (sym same)
    (subst (λ (s : State). OpensMessage own s b cursor) now (subst (λ (o : List ℕ). OpensMessage own st o cursor) seen there))

-- a number that isn't 0 is that of one more than another
pub one_more : (n : ℕ) → (n ≡ 0 → ⊥) → (m : ℕ) × (n ≡ suc m)
one_more zero other = absurd (other refl)
one_more (suc m) other = (m, refl)

module _ (asked : Asked) (b : List ℕ) (cursor : Cursor) (state : State) (n : ℕ) (some : cursor.left ≡ suc n) where
  -- the records at the cursor, of which there is one
  at_least_one : run_left asked b cursor state ≡ run_at asked b (suc n) cursor.place state
  at_least_one = ap (λ k. run_at asked b k cursor.place state) some

  -- An error of the first record is all that the records give.
  pub left_stops : (e : TransferError) → StopsAt asked b cursor.place state e → run_left asked b cursor state ≡ stopped e
  left_stops e stops = at_least_one ∙ stops n

  module _ (it : Acted) (acts : ActsAt asked b cursor.place state it) where
    -- what follows the first record, by whether it is taken again
    follows : (again : Bool) (new : Cursor) → new ≡ (if again then cursor else record cursor { place = it.after; left = cursor.left - 1 })
        → (if again then run_at asked b (suc n) cursor.place it.state else run_at asked b n it.after it.state) ≡ run_left asked b new it.state
    follows true new is = sym (ap (λ k. run_at asked b k cursor.place it.state) some) ∙ sym (ap (λ (c : Cursor). run_left asked b c it.state) is)
    follows false new is =
        let one_less : n ≡ cursor.left - 1 = omega (arith, some) in
        ap (λ k. run_at asked b k it.after it.state) one_less ∙ sym (ap (λ (c : Cursor). run_left asked b c it.state) is)

    -- The first record is the first step, and the others follow.
    pub left_acts : (new : Cursor) → new ≡ (if it.again then cursor else record cursor { place = it.after; left = cursor.left - 1 })
        → run_left asked b cursor state ≡ after_step (step_of it.act (encoded_record it.shown)) (run_left asked b new it.state)
    left_acts new is = at_least_one ∙ acts.gives n ∙ ap (after_step (step_of it.act (encoded_record it.shown))) (follows it.again new is)

-- A step is given, of what is asked for.
pub gives_step : (asked own : Asked) (b : List ℕ) (cursor new : Cursor) (state st : State) (it : Acted) (step : Step) → asked ≡ own → st ≡ state → (cursor.left ≡ 0 → ⊥)
    → ActsAt own b cursor.place st it → new ≡ (if it.again then cursor else record cursor { place = it.after; left = cursor.left - 1 }) → ReportsRecord b step.item (encoded_record it.shown).entry
    → step.kind ≡ act_number it.act → step.serial ≡ act_serial it.act → GivesStep asked b cursor new state it.state step
gives_step asked own b cursor new state st it step same now some acts is item kind serial =
    let more = one_more cursor.left some in
    let here : GivesStep own b cursor new st it.state step =
    record {
      act = it.act;
      taken = encoded_record it.shown;
      gives = left_acts own b cursor st more.0 more.1 it acts new is;
      octets = acts.octets;
      item = item;
      kind = kind;
      serial = serial;
    } in
    subst (λ (a : Asked). GivesStep a b cursor new state it.state step) (sym same) (subst (λ (s : State). GivesStep own b cursor new s it.state step) now here)

-- An error is given.
pub gives_error : (asked : Asked) (b : List ℕ) (cursor : Cursor) (state st : State) (e : TransferError) (number : ℕ) → st ≡ state → (cursor.left ≡ 0 → ⊥) → StopsAt asked b cursor.place st e
    → ReportsTransfer e number → GivesError asked b cursor state number
gives_error asked b cursor state st e number now some stops reported =
    let more = one_more cursor.left some in
    subst (λ (s : State). GivesError asked b cursor s number) now (record { error = e; gives = left_stops asked b cursor st more.0 more.1 e stops; reported = reported })
