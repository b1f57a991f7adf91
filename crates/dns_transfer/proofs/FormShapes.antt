-- Records that are read to the end are those of a whole transfer.
use Rattle.std.proofs.Common.{◌≡◌, ◌∙◌, ℕ, Bool, true, false, ap, sym, refl, subst, List, [], ◌∷◌, ◌++◌, map, inl, inr}
use Rattle.std.proofs.lemmas.Bool.{eqb-true}
use Rattle.std.specs.Bool.{⊤}
use Rattle.std.specs.Prelude.{◌≢◌, ◌==◌, Result, Ok, Err}
use Rattle.dns_iana.specs.Serials.{IsGreater}
use Rattle.dns_transfer.specs.Forms.{Difference, IsSoa, AreOthers, AreDifferences}
use Rattle.dns_transfer.specs.Forms.{IsTransfer, whole_reading, RunsToEnd, OnlyFormsAreRead, ZonesAreWhole, records_of_steps}
use Rattle.dns_transfer.specs.Forms.AreDifferences.{last as last_difference, more as more_differences}
use Rattle.dns_transfer.specs.Forms.IsTransfer.{whole, up_to_date, fallen_back, changes}
use Rattle.dns_transfer.specs.Grammar.{advance, begin}
use Rattle.dns_transfer.specs.Kinds.{kind_of}
use Rattle.dns_transfer.specs.Runs.{StepOf, RunOf, step_of, run_by, run}
use Rattle.dns_transfer.specs.Runs.StepOf.{Begin, FallsBackToAxfr, Remove, Add, End}
use Rattle.dns_transfer.specs.Serials.{is_greater}
use Rattle.dns_transfer.specs.declared.error.TransferError.{TransferError}
use Rattle.dns_transfer.specs.declared.grammar.Request.{Request}
use Rattle.dns_transfer.specs.declared.grammar.Request.TheVariants.{Axfr, Ixfr}
use Rattle.dns_transfer.specs.declared.grammar.State.{State}
use Rattle.dns_transfer.specs.declared.grammar.State.TheVariants.{Wanted, First, Whole, Removing, Adding, Ended}
use Rattle.dns_transfer.specs.declared.grammar.Kind.{Kind}
use Rattle.dns_transfer.specs.declared.grammar.Kind.TheVariants.{Soa, Other}
use Rattle.dns_transfer.specs.declared.grammar.Act.{Act}
use Rattle.dns_transfer.specs.declared.grammar.Act.TheVariants as acts
use Rattle.dns_transfer.proofs.theory.FormLemmas.{ends, runs, one_taken, falls, chosen, not_chosen, same_serial, ok_of, rest_of, rest_steps, rest_records, rest_of_steps}
use Rattle.dns_transfer.proofs.ReadForms.{IsDirect, EndsFrom, pair_of, chosen_pair, direct_pair, no_end, step_first, first_of, ends_from, ended_rest}
use Rattle.dns_transfer.proofs.ReadForms.EndsFrom.{ended, whole_add, whole_end, remove, newer, add, older, add_end}
use Rattle.dns_transfer.proofs.SerialLemmas.{is_greater-Decides}

module _ {R : Type 0} (kind : R → Result Kind TransferError) (request : Request) where
  -- the rest of a whole zone: other records, and the SOA record that ends it
  pub record IsWholeRest (final : ℕ) (rs : List R) (given : List (StepOf R)) : Type 0 where
    pub others : List R
    pub end : R
    pub are : AreOthers kind others
    pub is : IsSoa kind final end
    pub records : rs ≡ others ++ end ∷ []
    pub yields : given ≡ map Add others ++ End final ∷ []

  -- the rest of changes after the SOA record of the older version: the differences that it begins, and the SOA record that ends them
  pub record AreChanges (old final : ℕ) (soa : R) (rs : List R) (given : List (StepOf R)) : Type 0 where
    pub d : Difference R
    pub ds : List (Difference R)
    pub end : R
    pub are : AreDifferences kind old final (d ∷ ds)
    pub first : d.old_soa ≡ soa
    pub is : IsSoa kind final end
    pub records : rs ≡ rest_of d ds end
    pub yields : given ≡ rest_steps d ds final

  -- the rest of changes after the SOA record of the newer version: what it adds, and the end or further changes
  pub data AreAdded (new final : ℕ) : List R → List (StepOf R) → Type 0 where
    final_version : (added : List R) {end : R} → new ≡ final → AreOthers kind added → IsSoa kind final end → AreAdded new final (added ++ end ∷ []) (map Add added ++ End final ∷ [])
    next_version : (added : List R) {soa : R} {rs : List R} {given : List (StepOf R)} → new ≢ final → AreOthers kind added → IsSoa kind new soa → AreChanges new final soa rs given
        → AreAdded new final (added ++ soa ∷ rs) (map Add added ++ Remove soa ∷ given)

  -- what records are that are read to the end from a state on
  abbrev pub RestOf : State → List R → List (StepOf R) → Type 0
  RestOf Wanted rs given = ⊤
  RestOf (First last) rs given = ⊤
  RestOf (Whole last) rs given = IsWholeRest last rs given
  RestOf (Removing old last) rs given = (soa : R) → IsSoa kind old soa → AreChanges old last soa rs given
  RestOf (Adding new last) rs given = AreAdded new last rs given
  RestOf Ended rs given = (rs ≡ []) × (given ≡ [])

  -- one more record that the first difference removes
  with_removed : {old final : ℕ} {d : Difference R} {ds : List (Difference R)} (r : R) → kind r ≡ Ok Other → AreDifferences kind old final (d ∷ ds)
      → AreDifferences kind old final (record d { removed = r ∷ d.removed } ∷ ds)
  with_removed r other (last_difference h) =
      last_difference (record { old_serial = h.old_serial; removes = (other, h.removes); new_serial = h.new_serial; newer = h.newer; adds = h.adds })
  with_removed r other (more_differences h differs later) =
      more_differences (record { old_serial = h.old_serial; removes = (other, h.removes); new_serial = h.new_serial; newer = h.newer; adds = h.adds }) differs later

  more_removed : {old final : ℕ} {soa : R} {rs : List R} {given : List (StepOf R)} (r : R) → kind r ≡ Ok Other → AreChanges old final soa rs given
      → AreChanges old final soa (r ∷ rs) (Remove r ∷ given)
  more_removed r other c = record {
    d = record c.d { removed = r ∷ c.d.removed };
    ds = c.ds;
    end = c.end;
    are = with_removed r other c.are;
    first = c.first;
    is = c.is;
    records = ap (λ (l : List R). r ∷ l) c.records;
    yields = ap (λ (l : List (StepOf R)). Remove r ∷ l) c.yields;
  }

  -- one more record that is added
  more_added : {new final : ℕ} {rs : List R} {given : List (StepOf R)} (r : R) → kind r ≡ Ok Other → AreAdded new final rs given → AreAdded new final (r ∷ rs) (Add r ∷ given)
  more_added r other (final_version added same are is) = final_version (r ∷ added) same (other, are) is
  more_added r other (next_version added differs are is later) = next_version (r ∷ added) differs (other, are) is later

  -- the SOA record of the newer version, before what is added
  begins_added : {old new final : ℕ} {rs : List R} {given : List (StepOf R)} (soa new_soa : R) → IsSoa kind old soa → IsSoa kind new new_soa → IsGreater new old → AreAdded new final rs given
      → AreChanges old final soa (new_soa ∷ rs) (Add new_soa ∷ given)
  begins_added {old = old} soa new_soa was is greater (final_version added {end = end} same are last) =
      let d : Difference R = record { old_soa = soa; removed = []; new_soa = new_soa; added = added } in
      record {
        d = d;
        ds = [];
        end = end;
        are = subst (λ (n : ℕ). AreDifferences kind old n (d ∷ [])) same (last_difference (record { old_serial = was; removes = tt; new_serial = is; newer = greater; adds = are }));
        first = refl;
        is = last;
        records = refl;
        yields = refl;
      }
  begins_added {final = final} soa new_soa was is greater (next_version added {soa = next} differs are next_is later) =
      let d : Difference R = record { old_soa = soa; removed = []; new_soa = new_soa; added = added } in
      record {
        d = d;
        ds = later.d ∷ later.ds;
        end = later.end;
        are = more_differences (record { old_serial = was; removes = tt; new_serial = is; newer = greater; adds = are }) differs later.are;
        first = refl;
        is = later.is;
        records = ap (λ (l : List R). new_soa ∷ (added ++ l)) ((λ i. sym later.first i ∷ later.records i) ∙ sym (rest_records later.d later.ds later.end));
        yields = ap (λ (l : List (StepOf R)). Add new_soa ∷ (map Add added ++ l))
            ((λ i. Remove (sym later.first i) ∷ later.yields i) ∙ sym (rest_of_steps later.d later.ds final));
      }

  -- Records that are read to the end from a state on are these.
  pub shape : {state : State} {rs : List R} {given : List (StepOf R)} → EndsFrom kind request state rs given → RestOf state rs given
  shape ended = (refl, refl)
  shape (whole_add {r = r} other later) =
      let s = shape later in record {
        others = r ∷ s.others;
        end = s.end;
        are = (other, s.are);
        is = s.is;
        records = ap (λ (l : List R). r ∷ l) s.records;
        yields = ap (λ (l : List (StepOf R)). Add r ∷ l) s.yields;
      }
  shape (whole_end {r = r} is) = record { others = []; end = r; are = tt; is = is; records = refl; yields = refl }
  shape (remove {r = r} other later) = λ soa was. more_removed r other (shape later soa was)
  shape (newer {r = r} is greater later) = λ soa was. begins_added soa r was is greater (shape later)
  shape (add {r = r} other later) = more_added r other (shape later)
  shape (older {r = r} is differs later) = next_version [] differs tt is (shape later r is)
  shape (add_end is) = final_version [] refl tt is

module _ {R : Type 0} (kind : R → Result Kind TransferError) where
  -- the same of equal records and steps
  transferred : {request : Request} {rs others : List R} {given steps : List (StepOf R)} → others ≡ rs → steps ≡ given → IsTransfer kind request rs given → IsTransfer kind request others steps
  transferred {request = request} {rs = rs} {steps = steps} e f h =
      subst (λ (l : List R). IsTransfer kind request l steps) (sym e) (subst (λ (g : List (StepOf R)). IsTransfer kind request rs g) (sym f) h)

  -- the whole zone by AXFR, if these are its records after the first
  whole_of : (serial : ℕ) (first : R) (rs : List R) (later : List (StepOf R)) → IsSoa kind serial first → IsWholeRest kind Axfr serial rs later
      → IsTransfer kind Axfr (first ∷ rs) (Begin serial first ∷ later)
  whole_of serial first rs later is s =
      transferred (ap (λ (l : List R). first ∷ l) s.records) (ap (λ (l : List (StepOf R)). Begin serial first ∷ l) s.yields) (whole s.others is s.are s.is)

  -- The whole zone by AXFR, after its first record.
  whole_form : (serial : ℕ) (first : R) (rs : List R) (later : List (StepOf R)) → IsSoa kind serial first → runs kind Axfr rs (Whole serial) ≡ ends later
      → IsTransfer kind Axfr (first ∷ rs) (Begin serial first ∷ later)
  whole_form serial first rs later is reads = whole_of serial first rs later is (shape kind Axfr (ends_from kind Axfr rs (Whole serial) tt later reads))

  module _ (known serial : ℕ) (first : R) (is : IsSoa kind serial first) (greater : IsGreater serial known) where
    -- the whole zone in place of changes, if these are its records after the first SOA record
    fallen_of : (rs : List R) (later given : List (StepOf R)) → later ≡ FallsBackToAxfr ∷ given → IsWholeRest kind (Ixfr known) serial rs given
        → IsTransfer kind (Ixfr known) (first ∷ rs) (Begin serial first ∷ later)
    fallen_of rs later given falls_first s =
        transferred (ap (λ (l : List R). first ∷ l) s.records) (ap (λ (l : List (StepOf R)). Begin serial first ∷ l) (falls_first ∙ ap (λ (l : List (StepOf R)). FallsBackToAxfr ∷ l) s.yields))
        (fallen_back s.others is greater s.are s.is)

    -- The whole zone in place of changes, after the first SOA record.
    fallen_form : (r : R) (rs : List R) (k : Kind) (later : List (StepOf R)) → kind r ≡ Ok k → advance (Ixfr known) (First serial) k ≡ Ok (acts.FallBack, Whole serial)
        → runs kind (Ixfr known) (r ∷ rs) (First serial) ≡ ends later → IsTransfer kind (Ixfr known) (first ∷ r ∷ rs) (Begin serial first ∷ later)
    fallen_form r rs k later known_kind does reads =
        let split = step_first kind (Ixfr known) acts.FallBack r (runs kind (Ixfr known) (r ∷ rs) (Whole serial)) later (sym (falls kind known serial greater r rs k known_kind does) ∙ reads) in
        fallen_of (r ∷ rs) later split.0 split.1 (shape kind (Ixfr known) (ends_from kind (Ixfr known) (r ∷ rs) (Whole serial) tt split.0 split.2))

    -- changes, if these are their records after the first of the first difference
    changes_of : (r : R) (rs : List R) (later given : List (StepOf R)) → later ≡ Remove r ∷ given → AreChanges kind (Ixfr known) known serial r rs given
        → IsTransfer kind (Ixfr known) (first ∷ r ∷ rs) (Begin serial first ∷ later)
    changes_of r rs later given removes_first c =
        transferred
        (ap (λ (l : List R). first ∷ l) ((λ i. sym c.first i ∷ c.records i) ∙ sym (rest_records c.d c.ds c.end)))
        (ap (λ (l : List (StepOf R)). Begin serial first ∷ l)
        (removes_first ∙ (λ i. Remove (sym c.first i) ∷ c.yields i) ∙ sym (rest_of_steps c.d c.ds serial)))
        (changes is greater c.are c.is)

    -- Changes, after the first SOA record.
    changes_form : (r : R) (rs : List R) (later : List (StepOf R)) → IsSoa kind known r → advance (Ixfr known) (First serial) (Soa known) ≡ Ok (acts.Remove, Removing known serial)
        → runs kind (Ixfr known) (r ∷ rs) (First serial) ≡ ends later → IsTransfer kind (Ixfr known) (first ∷ r ∷ rs) (Begin serial first ∷ later)
    changes_form r rs later was does reads =
        let split = step_first kind (Ixfr known) acts.Remove r (runs kind (Ixfr known) rs (Removing known serial)) later
        (sym (one_taken kind (Ixfr known) r rs (First serial) (Soa known) acts.Remove (Removing known serial) was does refl) ∙ reads) in
        changes_of r rs later split.0 split.1 (shape kind (Ixfr known) (ends_from kind (Ixfr known) rs (Removing known serial) tt split.0 split.2) r was)

    -- The second record, by its kind.
    by_test : (r : R) (rs : List R) (later : List (StepOf R)) (other : ℕ) (b : Bool) → (other == known) ≡ b → IsSoa kind other r
        → runs kind (Ixfr known) (r ∷ rs) (First serial) ≡ ends later → IsTransfer kind (Ixfr known) (first ∷ r ∷ rs) (Begin serial first ∷ later)
    by_test r rs later other true tells soa reads =
        changes_form r rs later (subst (λ (n : ℕ). IsSoa kind n r) (eqb-true other known tells) soa) (ok_of (chosen (known == known) _ _ (same_serial known))) reads
    by_test r rs later other false tells soa reads = fallen_form r rs (Soa other) later soa (ok_of (not_chosen (other == known) _ _ tells)) reads

    by_second : (r : R) (rs : List R) (later : List (StepOf R)) (k : Result Kind TransferError) → kind r ≡ k → runs kind (Ixfr known) (r ∷ rs) (First serial) ≡ ends later
        → IsTransfer kind (Ixfr known) (first ∷ r ∷ rs) (Begin serial first ∷ later)
    by_second r rs later (Ok Other) told reads = fallen_form r rs Other later told refl reads
    by_second r rs later (Ok (Soa other)) told reads = by_test r rs later other (other == known) refl told reads
    by_second r rs later (Err e) told reads =
        let stops = ap (λ (k : Result Kind TransferError). run_by kind (Ixfr known) r (run kind (Ixfr known) (whole_reading rs)) k (First serial)) told in
        absurd (no_end kind (Ixfr known) e later (sym stops ∙ reads))

    -- A response by IXFR, after the first SOA record.
    second_form : (rs : List R) (later : List (StepOf R)) → runs kind (Ixfr known) rs (First serial) ≡ ends later → IsTransfer kind (Ixfr known) (first ∷ rs) (Begin serial first ∷ later)
    second_form [] later reads = absurd (let last = ap (λ (r : RunOf R). r.1) reads in cc)
    second_form (r ∷ rs) later reads = by_second r rs later (kind r) refl reads

  -- the first record falls back by no request
  wanted_direct : (request : Request) (k : Kind) → IsDirect (advance request Wanted k)
  wanted_direct Axfr (Soa serial) = refl
  wanted_direct (Ixfr known) (Soa serial) = direct_pair (is_greater serial known) (acts.Begin serial, First serial) (acts.UpToDate serial, Ended) refl refl
  wanted_direct request Other = tt

  -- A response, by its first record.
  by_first : (request : Request) (first : R) (rs : List R) (k : Kind) (act : Act) (next : State) (later : List (StepOf R)) → kind first ≡ Ok k → advance request Wanted k ≡ Ok (act, next)
      → runs kind request rs next ≡ ends later → IsTransfer kind request (first ∷ rs) (step_of act first ∷ later)
  by_first Axfr first rs (Soa serial) act next later is does reads =
      let both = pair_of {p = (acts.Begin serial, Whole serial)} does in
      transferred refl (λ i. step_of (ap (λ (p : Act × State). p.0) (sym both) i) first ∷ later)
      (whole_form serial first rs later is (subst (λ (n : State). runs kind Axfr rs n ≡ ends later) (ap (λ (p : Act × State). p.1) (sym both)) reads))
  by_first (Ixfr known) first rs (Soa serial) act next later is does reads =
      let both = pair_of {p = begin (Ixfr known) serial} does in
      elim (chosen_pair (is_greater serial known) (acts.Begin serial, First serial) (acts.UpToDate serial, Ended) both) [
        | inl d ↦
            let follows = subst (λ (n : State). runs kind (Ixfr known) rs n ≡ ends later) (ap (λ (p : Act × State). p.1) (sym d.1)) reads in
            transferred refl (λ i. step_of (ap (λ (p : Act × State). p.0) (sym d.1) i) first ∷ later)
            (second_form known serial first is ((is_greater-Decides serial known).0 d.0) rs later follows)
        | inr d ↦
            let follows = subst (λ (n : State). runs kind (Ixfr known) rs n ≡ ends later) (ap (λ (p : Act × State). p.1) (sym d.1)) reads in
            let rest = ended_rest kind (Ixfr known) (ends_from kind (Ixfr known) rs Ended tt later follows) in
            transferred (ap (λ (l : List R). first ∷ l) rest.0) (λ i. step_of (ap (λ (p : Act × State). p.0) (sym d.1) i) first ∷ rest.1 i)
            (up_to_date is (λ greater. let told = sym ((is_greater-Decides serial known).1 greater) ∙ d.0 in cc told))
      ]
  by_first request first rs Other act next later is does reads = absurd (cc does)

  -- Records that are read to the end are those of a whole transfer, with its steps.
  pub only_forms : (request : Request) (rs : List R) (given : List (StepOf R)) → RunsToEnd kind request rs given → IsTransfer kind request rs given
  only_forms request [] given reads = absurd (let last = ap (λ (r : RunOf R). r.1) reads in cc)
  only_forms request (first ∷ rs) given reads =
      let v = first_of kind request first rs Wanted given (wanted_direct request) reads in
      transferred refl v.first (by_first request first rs v.k v.act v.next v.later v.is v.does v.reads)

  -- the records that are handed out after the first
  added_records : (others : List R) (serial : ℕ) → records_of_steps (map Add others ++ End serial ∷ []) ≡ others
  added_records [] serial = refl
  added_records (r ∷ others) serial = ap (λ (l : List R). r ∷ l) (added_records others serial)

  -- A whole transfer by AXFR hands out all its records but the last.
  pub whole_records : {request : Request} {rs : List R} {given : List (StepOf R)} → request ≡ Axfr → IsTransfer kind request rs given
      → (serial : ℕ) × (end : R) × IsSoa kind serial end × (rs ≡ records_of_steps given ++ end ∷ [])
  whole_records e (whole {serial = serial} {first = first} {end = end} others is are last) =
      (serial, end, last, ap (λ (l : List R). first ∷ (l ++ end ∷ [])) (sym (added_records others serial)))
  whole_records e (up_to_date is not) = absurd (cc e)
  whole_records e (fallen_back others is greater are last) = absurd (cc e)
  whole_records e (changes is greater are last) = absurd (cc e)

-- Records that are read to the end are those of a whole transfer, and the steps are its.
pub only_forms_are_read : OnlyFormsAreRead
only_forms_are_read asked rs given reads = only_forms (kind_of asked) asked.request rs given reads

-- The steps of a transfer by AXFR hand out all of its records but the last.
pub zones_are_whole : ZonesAreWhole
zones_are_whole asked rs given axfr reads = whole_records (kind_of asked) axfr (only_forms_are_read asked rs given reads)
