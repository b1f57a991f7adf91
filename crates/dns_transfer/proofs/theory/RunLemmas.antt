-- What records give, one after the other.
use Rattle.std.proofs.Common.{◌≡◌, ◌∙◌, ℕ, Bool, true, false, ap, sym, refl, subst, List, [], ◌∷◌, ◌++◌}
use Rattle.std.specs.Bool.{⊤}
use Rattle.std.specs.Prelude.{◌==◌, if◌then◌else◌, Result, Ok, Err}
use Rattle.dns_name.specs.Names.{Fault}
use Rattle.dns_transfer.specs.Forms.{continued, RunsJoin}
use Rattle.dns_transfer.specs.Grammar.{Outcome, advance, in_whole, after_added, falls_back}
use Rattle.dns_transfer.specs.Kinds.{kind_of}
use Rattle.dns_transfer.specs.Runs.{StepOf, RunOf, step_of, after_step, taken, settled, run_by, run}
use Rattle.dns_transfer.specs.Serials.{is_greater}
use Rattle.dns_transfer.specs.declared.error.TransferError.{TransferError}
use Rattle.dns_transfer.specs.declared.error.TransferError.TheVariants.{WrongSoa}
use Rattle.dns_transfer.specs.declared.grammar.Request.{Request}
use Rattle.dns_transfer.specs.declared.grammar.Request.TheVariants.{Axfr, Ixfr}
use Rattle.dns_transfer.specs.declared.grammar.State.{State}
use Rattle.dns_transfer.specs.declared.grammar.State.TheVariants.{Wanted, First, Whole, Removing, Adding, Ended}
use Rattle.dns_transfer.specs.declared.grammar.Kind.{Kind}
use Rattle.dns_transfer.specs.declared.grammar.Kind.TheVariants.{Soa, Other}
use Rattle.dns_transfer.specs.declared.grammar.Act.{Act}
use Rattle.dns_transfer.specs.declared.grammar.Act.TheVariants.{Begin, UpToDate, FallBack, Remove, Add, End}

-- an outcome falls back only to the state in which the whole zone follows
abbrev pub FallsToWhole : Outcome → Type 0
FallsToWhole (Ok (act, next)) = falls_back act ≡ true → (last : ℕ) × (next ≡ Whole last)
FallsToWhole (Err e) = ⊤

-- a choice between two outcomes, each of which falls back only to that state
chosen_falls : (b : Bool) (x y : Outcome) → FallsToWhole x → FallsToWhole y → FallsToWhole (if b then x else y)
chosen_falls true x y h k = h
chosen_falls false x y h k = k

-- the same of a pair
pair_falls : (b : Bool) (x y : Act × State) → FallsToWhole (Ok x) → FallsToWhole (Ok y) → FallsToWhole (Ok (if b then x else y))
pair_falls true x y h k = h
pair_falls false x y h k = k

-- an act that doesn't fall back
stays : (act : Act) (next : State) → falls_back act ≡ false → FallsToWhole (Ok (act, next))
stays act next same = λ falls. absurd (let e : false ≡ true = sym same ∙ falls in cc e)

-- Only the record after the first SOA record falls back, and then the whole zone follows.
pub falls_to_whole : (request : Request) (state : State) (k : Kind) → FallsToWhole (advance request state k)
falls_to_whole Axfr Wanted (Soa serial) = stays (Begin serial) (Whole serial) refl
falls_to_whole (Ixfr known) Wanted (Soa serial) =
    pair_falls (is_greater serial known) (Begin serial, First serial) (UpToDate serial, Ended) (stays (Begin serial) (First serial) refl) (stays (UpToDate serial) Ended refl)
falls_to_whole request Wanted Other = tt
falls_to_whole Axfr (First last) k = λ falls. (last, refl)
falls_to_whole (Ixfr known) (First last) Other = λ falls. (last, refl)
falls_to_whole (Ixfr known) (First last) (Soa serial) =
    pair_falls (serial == known) (Remove, Removing serial last) (FallBack, Whole last) (stays Remove (Removing serial last) refl) (λ falls. (last, refl))
falls_to_whole request (Whole last) Other = stays Add (Whole last) refl
falls_to_whole request (Whole last) (Soa serial) = chosen_falls (serial == last) (Ok (End serial, Ended)) (Err WrongSoa) (stays (End serial) Ended refl) tt
falls_to_whole request (Removing old last) Other = stays Remove (Removing old last) refl
falls_to_whole request (Removing old last) (Soa serial) =
    chosen_falls (is_greater serial old) (Ok (Add, Adding serial last)) (Err WrongSoa) (stays Add (Adding serial last) refl) tt
falls_to_whole request (Adding new last) Other = stays Add (Adding new last) refl
falls_to_whole request (Adding new last) (Soa serial) =
    chosen_falls (serial == new) (Ok (after_added serial last)) (Err WrongSoa)
    (pair_falls (serial == last) (End serial, Ended) (Remove, Removing serial last) (stays (End serial) Ended refl) (stays Remove (Removing serial last) refl)) tt
falls_to_whole request Ended k = tt

module _ {R : Type 0} where
  -- among the records of a whole zone, a record is taken at once
  pub whole_settles : (r : R) (later : State → RunOf R) (again : State → Outcome) (last : ℕ) (k : Kind) → settled r later again (in_whole last k) ≡ taken r later (in_whole last k)
  whole_settles r later again last Other = refl
  whole_settles r later again last (Soa serial) =
      elim (serial == last) as (λ (b : Bool). settled r later again (if b then Ok (End serial, Ended) else Err WrongSoa) ≡ taken r later (if b then Ok (End serial, Ended) else Err WrongSoa))
      [ true ↦ refl | false ↦ refl ]

  -- a step before what continues
  step_continued : (step : StepOf R) (given : RunOf R) (later : State → RunOf R) → continued (after_step step given) later ≡ after_step step (continued given later)
  step_continued step (items, Ok state) later = refl
  step_continued step (items, Err e) later = refl

  -- the last step before a state
  taken_continued : (r : R) (first both later : State → RunOf R) → ((state : State) → both state ≡ continued (first state) later) → (o : Outcome)
      → taken r both o ≡ continued (taken r first o) later
  taken_continued r first both later same (Ok (act, state)) = ap (after_step (step_of act r)) (same state) ∙ sym (step_continued (step_of act r) (first state) later)
  taken_continued r first both later same (Err e) = refl

  -- the same of a record that may be taken again
  settled_continued : (r : R) (first both later : State → RunOf R) → ((state : State) → both state ≡ continued (first state) later) → (again : State → Outcome) (o : Outcome)
      → settled r both again o ≡ continued (settled r first again o) later
  settled_continued r first both later same again (Ok (act, state)) =
      ap (after_step (step_of act r)) (choice (falls_back act)) ∙ sym (step_continued (step_of act r) (if falls_back act then taken r first (again state) else first state) later)
    where
      choice : (b : Bool) → (if b then taken r both (again state) else both state) ≡ continued (if b then taken r first (again state) else first state) later
      choice true = taken_continued r first both later same (again state)
      choice false = same state
  settled_continued r first both later same again (Err e) = refl

  module _ (kind : R → Result Kind TransferError) (request : Request) where
    -- the same of a record by its kind
    by_continued : (r : R) (first both later : State → RunOf R) → ((state : State) → both state ≡ continued (first state) later) → (k : Result Kind TransferError) (state : State)
        → run_by kind request r both k state ≡ continued (run_by kind request r first k state) later
    by_continued r first both later same (Ok k) state = settled_continued r first both later same (λ next. advance request next k) (advance request state k)
    by_continued r first both later same (Err e) state = refl

    -- Records that follow others are read from the state after those.
    pub run-append : (xs ys : List (Result R Fault)) (state : State) → run kind request (xs ++ ys) state ≡ continued (run kind request xs state) (run kind request ys)
    run-append [] ys state = refl
    run-append (Ok r ∷ xs) ys state = by_continued r (run kind request xs) (run kind request (xs ++ ys)) (run kind request ys) (run-append xs ys) (kind r) state
    run-append (Err f ∷ xs) ys state = refl

    -- What a record of a known kind gives.
    pub run-known : (r : R) (xs : List (Result R Fault)) (state : State) (k : Kind) → kind r ≡ Ok k
        → run kind request (Ok r ∷ xs) state ≡ settled r (run kind request xs) (λ next. advance request next k) (advance request state k)
    run-known r xs state k is = ap (λ (known : Result Kind TransferError). run_by kind request r (run kind request xs) known state) is

    -- What a record gives that is taken at once.
    pub run-taken : (r : R) (xs : List (Result R Fault)) (state : State) (k : Kind) (act : Act) (next : State) → kind r ≡ Ok k → advance request state k ≡ Ok (act, next)
        → falls_back act ≡ false → run kind request (Ok r ∷ xs) state ≡ after_step (step_of act r) (run kind request xs next)
    run-taken r xs state k act next is does at_once =
        run-known r xs state k is ∙ ap (settled r (run kind request xs) (λ n. advance request n k)) does
        ∙ ap (λ (b : Bool). after_step (step_of act r) (if b then taken r (run kind request xs) (advance request next k) else run kind request xs next)) at_once

    -- A record that fell back is taken in the next state as it would be without that.
    pub run-again : (r : R) (xs : List (Result R Fault)) (state : State) (k : Kind) (act : Act) (next : State) → kind r ≡ Ok k → advance request state k ≡ Ok (act, next)
        → falls_back act ≡ true → run kind request (Ok r ∷ xs) next ≡ taken r (run kind request xs) (advance request next k)
    run-again r xs state k act next is does falls =
        let whole = subst FallsToWhole does (falls_to_whole request state k) falls in
        run-known r xs next k is
        ∙ ap (λ (n : State). settled r (run kind request xs) (λ m. advance request m k) (advance request n k)) whole.1
        ∙ whole_settles r (run kind request xs) (λ m. advance request m k) whole.0 k
        ∙ ap (λ (n : State). taken r (run kind request xs) (advance request n k)) (sym whole.1)

-- The records of a message are read after those of the messages before.
pub runs_join : RunsJoin
runs_join asked xs ys state = run-append (kind_of asked) asked.request xs ys state
