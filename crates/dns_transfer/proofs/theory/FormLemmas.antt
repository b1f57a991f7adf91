-- Whole transfers are read to their end, with their steps.
use Rattle.std.proofs.Common.{◌≡◌, ◌∙◌, ℕ, Bool, true, false, ap, sym, refl, subst, List, [], ◌∷◌, ◌++◌, map, append_assoc, eq-eqb, inl, inr, arith}
use Rattle.std.proofs.lemmas.Bool.Decides.{eqb_tells}
use Rattle.std.proofs.lemmas.List.{map-append}
use Rattle.std.specs.List.{flat_map}
use Rattle.std.specs.Prelude.{◌==◌, if◌then◌else◌, Result, Ok}
use Rattle.dns_iana.specs.Serials.{IsGreater}
use Rattle.dns_transfer.specs.Forms.{Difference, all_removed, all_added, difference_records, difference_steps, IsSoa, AreOthers, IsDifference}
use Rattle.dns_transfer.specs.Forms.{AreDifferences, IsTransfer, whole_reading, whole_steps, RunsToEnd, FormsAreRead}
use Rattle.dns_transfer.specs.Forms.AreDifferences.{last, more}
use Rattle.dns_transfer.specs.Forms.IsTransfer.{whole, up_to_date, fallen_back, changes}
use Rattle.dns_transfer.specs.Grammar.{Outcome, advance, falls_back}
use Rattle.dns_transfer.specs.Kinds.{kind_of}
use Rattle.dns_transfer.specs.Runs.{StepOf, ItemOf, RunOf, step_of, after_step, settled, run}
use Rattle.dns_transfer.specs.Runs.StepOf.{Begin, FallsBackToAxfr, Remove, Add, End}
use Rattle.dns_transfer.specs.Serials.{is_greater}
use Rattle.dns_transfer.specs.declared.error.TransferError.{TransferError}
use Rattle.dns_transfer.specs.declared.grammar.Request.{Request}
use Rattle.dns_transfer.specs.declared.grammar.Request.TheVariants.{Axfr, Ixfr}
use Rattle.dns_transfer.specs.declared.grammar.State.{State}
use Rattle.dns_transfer.specs.declared.grammar.State.TheVariants.{Wanted, First, Whole, Removing, Adding, Ended}
use Rattle.dns_transfer.specs.declared.grammar.Kind.{Kind}
use Rattle.dns_transfer.specs.declared.grammar.Kind.TheVariants.{Soa, Other}
use Rattle.dns_transfer.specs.declared.grammar.Act.{Act}
use Rattle.dns_transfer.specs.declared.grammar.Act.TheVariants as acts
use Rattle.dns_transfer.proofs.theory.RunLemmas.{run-known, run-taken, run-again}
use Rattle.dns_transfer.proofs.SerialLemmas.{is_greater-Decides}

-- steps before what a run gives
abbrev pub before : {R : Type 0} → List (StepOf R) → RunOf R → RunOf R
before steps later = (whole_steps steps ++ later.0, later.1)

-- what a run to the end gives
abbrev pub ends : {R : Type 0} → List (StepOf R) → RunOf R
ends steps = (whole_steps steps, Ok Ended)

-- steps before the last ones
before-ends : {R : Type 0} (first later : List (StepOf R)) → before first (ends later) ≡ ends (first ++ later)
before-ends {R = R} first later =
    ap (λ (items : List (ItemOf R)). let r : RunOf R = (items, Ok Ended) in r) (sym (map-append (λ (step : StepOf R). let item : ItemOf R = Ok step in item) first later))

-- Outcomes of one pair.
pub ok_of : {p q : Act × State} → p ≡ q → let a : Outcome = Ok p in let b : Outcome = Ok q in a ≡ b
ok_of e = ap (λ (p : Act × State). let o : Outcome = Ok p in o) e

-- The choice of a test that is true.
pub chosen : {X : Type 0} (b : Bool) (x y : X) → b ≡ true → (if b then x else y) ≡ x
chosen b x y is = ap (λ (c : Bool). if c then x else y) is

-- The choice of a test that is false.
pub not_chosen : {X : Type 0} (b : Bool) (x y : X) → b ≡ false → (if b then x else y) ≡ y
not_chosen b x y is = ap (λ (c : Bool). if c then x else y) is

-- A serial is itself, and none that differs.
pub same_serial : (s : ℕ) → (s == s) ≡ true
same_serial s = eq-eqb s s refl

other_serial : (s t : ℕ) → (s ≡ t → ⊥) → (s == t) ≡ false
other_serial s t other = elim (eqb_tells s t) [ inl same ↦ absurd (other same.1) | inr differs ↦ differs.0 ]

-- a test that isn't true is false
not_greater : (s t : ℕ) → (IsGreater s t → ⊥) → is_greater s t ≡ false
not_greater s t not = false_of (is_greater s t) (λ is. not ((is_greater-Decides s t).0 is))
  where
    false_of : (b : Bool) → (b ≡ true → ⊥) → b ≡ false
    false_of true h = absurd (h refl)
    false_of false h = refl

module _ {R : Type 0} where
  -- The records of the remaining differences and the last SOA record, after the first record of the first of them.
  abbrev pub rest_of : Difference R → List (Difference R) → R → List R
  rest_of d ds end = d.removed ++ (all_added d ++ (flat_map difference_records ds ++ end ∷ []))

  -- The steps of these records.
  abbrev pub rest_steps : Difference R → List (Difference R) → ℕ → List (StepOf R)
  rest_steps d ds serial = map Remove d.removed ++ (map Add (all_added d) ++ (flat_map difference_steps ds ++ End serial ∷ []))

  -- Differences are the first record of the first of them, and the rest.
  pub rest_records : (d : Difference R) (ds : List (Difference R)) (end : R) → flat_map difference_records (d ∷ ds) ++ end ∷ [] ≡ d.old_soa ∷ rest_of d ds end
  rest_records d ds end = append_assoc (difference_records d) (flat_map difference_records ds) (end ∷ []) ∙ append_assoc (all_removed d) (all_added d) (flat_map difference_records ds ++ end ∷ [])

  -- The same of their steps.
  pub rest_of_steps : (d : Difference R) (ds : List (Difference R)) (serial : ℕ) → flat_map difference_steps (d ∷ ds) ++ End serial ∷ [] ≡ Remove d.old_soa ∷ rest_steps d ds serial
  rest_of_steps d ds serial =
      append_assoc (difference_steps d) (flat_map difference_steps ds) (End serial ∷ [])
      ∙ append_assoc (map Remove (all_removed d)) (map Add (all_added d)) (flat_map difference_steps ds ++ End serial ∷ [])

  -- The steps of a difference before those of the rest.
  difference_before : (d : Difference R) (later : List (StepOf R))
      → before (map Remove d.removed) (before (map Add (all_added d)) (ends later)) ≡ ends (map Remove d.removed ++ (map Add (all_added d) ++ later))
  difference_before d later =
      ap (before (map Remove d.removed)) (before-ends (map Add (all_added d)) later) ∙ before-ends (map Remove d.removed) (map Add (all_added d) ++ later)

-- Differences begin with the SOA record of the first version.
first_soa : {R : Type 0} {kind : R → Result Kind TransferError} {from to : ℕ} {first : Difference R} {others : List (Difference R)} → AreDifferences kind from to (first ∷ others)
    → IsSoa kind from first.old_soa
first_soa (last is) = is.old_serial
first_soa (more is other later) = is.old_serial

module _ {R : Type 0} (kind : R → Result Kind TransferError) (request : Request) where
  -- what records give from a state on
  abbrev pub runs : List R → State → RunOf R
  runs rs state = run kind request (whole_reading rs) state

  -- A record that is taken at once gives its step.
  pub one_taken : (r : R) (rs : List R) (state : State) (k : Kind) (act : Act) (next : State) → kind r ≡ Ok k → advance request state k ≡ Ok (act, next) → falls_back act ≡ false
      → runs (r ∷ rs) state ≡ after_step (step_of act r) (runs rs next)
  one_taken r rs state k act next is does at_once = run-taken kind request r (whole_reading rs) state k act next is does at_once

  -- In a state that other records of the zone don't change, each of them gives the same kind of step.
  pub others_taken : (state : State) (act : Act) → advance request state Other ≡ Ok (act, state) → falls_back act ≡ false → (others rs : List R) → AreOthers kind others
      → runs (others ++ rs) state ≡ before (map (λ r. step_of act r) others) (runs rs state)
  others_taken state act does at_once [] rs are = refl
  others_taken state act does at_once (r ∷ others) rs are =
      one_taken r (others ++ rs) state Other act state are.0 does at_once ∙ ap (after_step (step_of act r)) (others_taken state act does at_once others rs are.1)

  -- The SOA record that ends the whole zone.
  pub whole_ends : (serial : ℕ) (end : R) → IsSoa kind serial end → runs (end ∷ []) (Whole serial) ≡ ends (End serial ∷ [])
  whole_ends serial end is = one_taken end [] (Whole serial) (Soa serial) (acts.End serial) Ended is (chosen (serial == serial) _ _ (same_serial serial)) refl

  -- The records of the whole zone after the first.
  pub whole_taken : (serial : ℕ) (others : List R) (end : R) → AreOthers kind others → IsSoa kind serial end
      → runs (others ++ end ∷ []) (Whole serial) ≡ ends (map Add others ++ End serial ∷ [])
  whole_taken serial others end are is =
      others_taken (Whole serial) acts.Add refl refl others (end ∷ []) are
      ∙ ap (before (map Add others)) (whole_ends serial end is)
      ∙ before-ends (map Add others) (End serial ∷ [])

  -- A difference after its first record, up to the SOA record that follows it.
  pub difference_taken : (old new final : ℕ) (d : Difference R) (rs : List R) → IsDifference kind old new d
      → runs (d.removed ++ (all_added d ++ rs)) (Removing old final) ≡ before (map Remove d.removed) (before (map Add (all_added d)) (runs rs (Adding new final)))
  difference_taken old new final d rs is =
      let added = others_taken (Adding new final) acts.Add refl refl d.added rs is.adds in
      let newer = chosen (is_greater new old) _ _ ((is_greater-Decides new old).1 is.newer) in
      let soa = one_taken d.new_soa (d.added ++ rs) (Removing old final) (Soa new) acts.Add (Adding new final) is.new_serial newer refl in
      others_taken (Removing old final) acts.Remove refl refl d.removed (all_added d ++ rs) is.removes
      ∙ ap (before (map Remove d.removed)) (soa ∙ ap (after_step (Add d.new_soa)) added)

  -- The differences after the first record, and the last SOA record.
  pub differences_taken : {old final : ℕ} (d : Difference R) (ds : List (Difference R)) (end : R) → AreDifferences kind old final (d ∷ ds) → IsSoa kind final end
      → runs (rest_of d ds end) (Removing old final) ≡ ends (rest_steps d ds final)
  differences_taken {old = old} {final = final} d [] end (last is) soa =
      let ended = one_taken end [] (Adding final final) (Soa final) (acts.End final) Ended soa
      (chosen (final == final) _ _ (same_serial final) ∙ ok_of (chosen (final == final) _ _ (same_serial final))) refl in
      difference_taken old final final d (end ∷ []) is
      ∙ ap (λ later. before (map Remove d.removed) (before (map Add (all_added d)) later)) ended
      ∙ difference_before d (End final ∷ [])
  differences_taken d [] end (more is other later) soa = elim later [ ]
  differences_taken {old = old} {final = final} d (next ∷ ds) end (more {mid = mid} is other later) soa =
      let follows = one_taken next.old_soa (rest_of next ds end) (Adding mid final) (Soa mid) acts.Remove (Removing mid final) (first_soa later)
      (chosen (mid == mid) _ _ (same_serial mid) ∙ ok_of (not_chosen (mid == final) _ _ (other_serial mid final other))) refl in
      let others = differences_taken next ds end later soa in
      let rest = flat_map difference_records (next ∷ ds) ++ end ∷ [] in
      difference_taken old mid final d rest is
      ∙ ap (λ rs. before (map Remove d.removed) (before (map Add (all_added d)) (runs rs (Adding mid final)))) (rest_records next ds end)
      ∙ ap (λ given. before (map Remove d.removed) (before (map Add (all_added d)) given)) (follows ∙ ap (after_step (Remove next.old_soa)) others)
      ∙ difference_before d (Remove next.old_soa ∷ rest_steps next ds final)
      ∙ ap (λ given. ends (map Remove d.removed ++ (map Add (all_added d) ++ given))) (sym (rest_of_steps next ds final))

module _ {R : Type 0} (kind : R → Result Kind TransferError) (known serial : ℕ) (newer : IsGreater serial known) where
  -- The first SOA record of a response by IXFR.
  begins : (first : R) (rs : List R) → IsSoa kind serial first → runs kind (Ixfr known) (first ∷ rs) Wanted ≡ after_step (Begin serial first) (runs kind (Ixfr known) rs (First serial))
  begins first rs is =
      one_taken kind (Ixfr known) first rs Wanted (Soa serial) (acts.Begin serial) (First serial) is (ok_of (chosen (is_greater serial known) _ _ ((is_greater-Decides serial known).1 newer))) refl

  -- a newer serial is another one
  not_known : serial ≡ known → ⊥
  not_known same = (is_greater_self known) (subst (λ n. IsGreater n known) same newer)
    where
      is_greater_self : (n : ℕ) → IsGreater n n → ⊥
      is_greater_self n (inl h) = omega (arith, h.0)
      is_greater_self n (inr h) = omega (arith, h.0)

  -- A record that shows that the whole zone follows.
  pub falls : (r : R) (rs : List R) (k : Kind) → kind r ≡ Ok k → advance (Ixfr known) (First serial) k ≡ Ok (acts.FallBack, Whole serial)
      → runs kind (Ixfr known) (r ∷ rs) (First serial) ≡ after_step FallsBackToAxfr (runs kind (Ixfr known) (r ∷ rs) (Whole serial))
  falls r rs k is does =
      run-known kind (Ixfr known) r (whole_reading rs) (First serial) k is
      ∙ ap (settled r (run kind (Ixfr known) (whole_reading rs)) (λ n. advance (Ixfr known) n k)) does
      ∙ ap (after_step FallsBackToAxfr) (sym (run-again kind (Ixfr known) r (whole_reading rs) (First serial) k acts.FallBack (Whole serial) is does refl))

  -- The whole zone in place of changes, after the first SOA record.
  falls_first : (others : List R) (end : R) → AreOthers kind others → IsSoa kind serial end
      → runs kind (Ixfr known) (others ++ end ∷ []) (First serial) ≡ ends (FallsBackToAxfr ∷ map Add others ++ End serial ∷ [])
  falls_first [] end are is =
      falls end [] (Soa serial) is (ok_of (not_chosen (serial == known) _ _ (other_serial serial known not_known)))
      ∙ ap (after_step FallsBackToAxfr) (whole_taken kind (Ixfr known) serial [] end are is)
  falls_first (r ∷ others) end are is =
      falls r (others ++ end ∷ []) Other are.0 refl ∙ ap (after_step FallsBackToAxfr) (whole_taken kind (Ixfr known) serial (r ∷ others) end are is)

  -- Changes, after the first SOA record.
  changes_first : (ds : List (Difference R)) (end : R) → AreDifferences kind known serial ds → IsSoa kind serial end
      → runs kind (Ixfr known) (flat_map difference_records ds ++ end ∷ []) (First serial) ≡ ends (flat_map difference_steps ds ++ End serial ∷ [])
  changes_first [] end are is = elim are [ ]
  changes_first (d ∷ ds) end are is =
      ap (λ rs. runs kind (Ixfr known) rs (First serial)) (rest_records d ds end)
      ∙ one_taken kind (Ixfr known) d.old_soa (rest_of d ds end) (First serial) (Soa known) acts.Remove (Removing known serial) (first_soa are)
      (ok_of (chosen (known == known) _ _ (same_serial known))) refl
      ∙ ap (after_step (Remove d.old_soa)) (differences_taken kind (Ixfr known) d ds end are is)
      ∙ ap ends (sym (rest_of_steps d ds serial))

module _ {R : Type 0} (kind : R → Result Kind TransferError) where
  -- The records of a whole transfer are read to the end, with its steps.
  pub forms_read : {request : Request} {rs : List R} {given : List (StepOf R)} → IsTransfer kind request rs given → RunsToEnd kind request rs given
  forms_read (whole {serial = serial} {first = first} {end = end} others is are ends_so) =
      one_taken kind Axfr first (others ++ end ∷ []) Wanted (Soa serial) (acts.Begin serial) (Whole serial) is refl refl
      ∙ ap (after_step (Begin serial first)) (whole_taken kind Axfr serial others end are ends_so)
  forms_read (up_to_date {known = known} {serial = serial} {first = first} is not) =
      one_taken kind (Ixfr known) first [] Wanted (Soa serial) (acts.UpToDate serial) Ended is (ok_of (not_chosen (is_greater serial known) _ _ (not_greater serial known not))) refl
  forms_read (fallen_back {known = known} {serial = serial} {first = first} {end = end} others is newer are ends_so) =
      begins kind known serial newer first (others ++ end ∷ []) is
      ∙ ap (after_step (Begin serial first)) (falls_first kind known serial newer others end are ends_so)
  forms_read (changes {known = known} {serial = serial} {first = first} {end = end} {ds = ds} is newer are ends_so) =
      begins kind known serial newer first (flat_map difference_records ds ++ end ∷ []) is
      ∙ ap (after_step (Begin serial first)) (changes_first kind known serial newer ds end are ends_so)

-- The records of a whole transfer are read to the end, with its steps.
pub forms_are_read : FormsAreRead
forms_are_read asked rs given is = forms_read (kind_of asked) is
