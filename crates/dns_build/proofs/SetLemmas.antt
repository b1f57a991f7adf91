-- Marks, and sets of records that are pushed whole or not at all.
use Rattle.std.proofs.Common.{◌≡◌, ◌⊎◌, ◌∙◌, ℕ, suc, ◌+◌, ◌<◌, ◌≤◌, Bool, Option, Ok, Err, List, [], ◌∷◌, ◌++◌, add-one, append_assoc, append-nil, ap, arith, drop}
use Rattle.std.proofs.Common.{get_or, inl, inr, length, length-append, map, refl, subst, sym, take}
use Rattle.std.proofs.Math.Logic.{∥∥₁_elim}
use Rattle.std.proofs.Math.Seq.{take-append_seam, take-suc}
use Rattle.std.proofs.lemmas.List.{map-append, take_all, take-append-drop}
use base.Stored.{Coded-set}
use Rattle.dns_wire.specs.Encoders.{Rule}
use Rattle.dns_wire.specs.Targets.{Written}
use Rattle.dns_name.specs.Names.{Fault}
use Rattle.dns_name.proofs.theory.ExtentLaws.{ends_after}
use Rattle.dns_item.specs.Items.{RecordItem, RecordSkipFaultAt, SkipsRecord}
use Rattle.dns_read.specs.Reading.{Skipped, StopsSkipping}
use Rattle.dns_read.specs.Reading.Skipped.{more, none}
use Rattle.dns_read.specs.Reading.StopsSkipping.{after, here}
use Rattle.dns_read.specs.StartOrFault.{records_skip_or_stop}
use Rattle.dns_read.specs.declared.section.Section.{Section}
use Rattle.dns_read.specs.declared.section.Section.TheVariants.{Answer, Authority, Additional}
use Rattle.dns_build.specs.BuilderStates.{Built, InEach, KeepsFirst, MovesState, PushReturns, Represents, RepresentsSome, built_code, count_at, cut_after, last_start, size_after}
use Rattle.dns_build.specs.KnownByState.{RewindsToMarks}
use Rattle.dns_build.specs.Sets.{AllFit, ReturnsAfter, SetIsRefused}
use Rattle.dns_build.specs.State.{Stage, InBuilder, InQuestion, InAnswer, InAuthority, InAdditional, State, encode, records_at, stage_of, up_to, with_first, with_record, with_records}
use Rattle.dns_build.specs.declared.push_error.PushError.{PushError}
use Rattle.dns_build.proofs.AnswerLemmas.{at_end_or_before, none_there}
use Rattle.dns_build.proofs.FirstItems.{begins-within, skipped-first}
use Rattle.dns_build.proofs.KnownByState.{builders_are_known}
use Rattle.dns_build.proofs.Moves.{counts, cuts-after, last-start}
use Rattle.dns_build.proofs.Sections.{Records, count_offset_of, prior}

-- Records end after their start.
pub skipped-rises : {b : List ℕ} {n p q : ℕ} → Skipped (SkipsRecord b) n p q → p ≤ q
skipped-rises none = omega arith
skipped-rises (more h x) = let first = ends_after h.name_ends in let end = h.end in let others = skipped-rises x in omega (arith, first, end, others)

-- During a walk over n records from `start`: m are left, from offset p on.
pub record Walks (b : List ℕ) (n start m p : ℕ) : Type 0 where
  pub skipped : (end : ℕ) → Skipped (SkipsRecord b) m p end → Skipped (SkipsRecord b) n start end
  pub stopped : (f : Fault) → StopsSkipping (SkipsRecord b) (RecordSkipFaultAt b) m p f → StopsSkipping (SkipsRecord b) (RecordSkipFaultAt b) n start f

-- At first all are left.
pub walk-begins : (b : List ℕ) (n start m p : ℕ) → m ≡ n → p ≡ start → Walks b n start m p
walk-begins b n start m p e f = subst (λ (x : ℕ × ℕ). Walks b n start x.0 x.1) (λ i. (sym e i, sym f i)) (record { skipped = λ end h. h; stopped = λ f h. h })

-- One more is skipped.
pub walk-goes : (b : List ℕ) (n start m k p q : ℕ) → m ≡ suc k → Walks b n start m p → SkipsRecord b p q → Walks b n start k q
walk-goes b n start m k p q e w h = record {
  skipped = λ end x. w.skipped end (subst (λ j. Skipped (SkipsRecord b) j p end) (sym e) (more h x));
  stopped = λ f x. w.stopped f (subst (λ j. StopsSkipping (SkipsRecord b) (RecordSkipFaultAt b) j p f) (sym e) (after h x));
}

-- At the end none is left.
pub walk-ends : (b : List ℕ) (n start m p : ℕ) → m ≡ 0 → Walks b n start m p → Skipped (SkipsRecord b) n start p
walk-ends b n start m p e w = w.skipped p (subst (λ j. Skipped (SkipsRecord b) j p p) (sym e) none)

-- If one can't be skipped, not all can.
pub walk-stops : (b : List ℕ) (n start m k p : ℕ) (f : Fault) → m ≡ suc k → Walks b n start m p → RecordSkipFaultAt b p f → (end : ℕ) → Skipped (SkipsRecord b) n start end → ⊥
walk-stops b n start m k p f e w fault end skipped =
    (records_skip_or_stop b n).not_both start end f skipped
    (w.stopped f (subst (λ j. StopsSkipping (SkipsRecord b) (RecordSkipFaultAt b) j p f) (sym e) (here fault)))

-- if a section has no more records, keeping n of them changes nothing
all-first : (k : Section) (n : ℕ) (s : State) → length (records_at (stage_of k) s) ≤ n → with_first (stage_of k) n s ≡ s
all-first Answer n s few = λ i. record s { answers = take_all n s.answers few i }
all-first Authority n s few = λ i. record s { authorities = take_all n s.authorities few i }
all-first Additional n s few = λ i. record s { additionals = take_all n s.additionals few i }

-- keeping the records before those that were pushed undoes the pushes
first-pushed : (k : Section) (xs : List RecordItem) (s : State) → with_first (stage_of k) (length (records_at (stage_of k) s)) (with_records (stage_of k) xs s) ≡ s
first-pushed Answer xs s = λ i. record s { answers = take-append_seam s.answers xs i }
first-pushed Authority xs s = λ i. record s { authorities = take-append_seam s.authorities xs i }
first-pushed Additional xs s = λ i. record s { additionals = take-append_seam s.additionals xs i }

-- A builder that is rewound to a mark equals the one that was marked.
pub rewinds_to_marks : RewindsToMarks
rewinds_to_marks k rule s xs marked full new h pushed moves =
    builders_are_known (stage_of k) rule s new marked (subst (λ (t : State). Represents (stage_of k) rule t new) (first-pushed k xs s) (moves (with_records (stage_of k) xs s) pushed)) h

more-pushed : (k : Section) (xs : List RecordItem) (s : State) → length (records_at (stage_of k) s) ≤ length (records_at (stage_of k) (with_records (stage_of k) xs s))
more-pushed Answer xs s = simp length-append (omega arith)
more-pushed Authority xs s = simp length-append (omega arith)
more-pushed Additional xs s = simp length-append (omega arith)

module _ (stage : Stage) (k : Section) (is : stage ≡ stage_of k) (rule : Rule) (offset : ℕ) (there : offset ≡ count_offset_of (Records k)) where
  count-is : (b : Built) (s : State) → Represents (stage_of k) rule s b → count_at offset b.written ≡ length (records_at (stage_of k) s)
  count-is b s h = ap (λ o. count_at o b.written) there ∙ counts (Records k) rule b s h

  -- A mark has the number of the section's records.
  pub marked : (b : Built) (n : ℕ) → n ≡ count_at offset b.written → InEach stage rule b (λ s. n ≡ length (records_at stage s))
  marked b n e = subst (λ t. InEach t rule b (λ s. n ≡ length (records_at t s))) (sym is) (λ s h. e ∙ count-is b s h)

  -- a rewind to a mark of as many records or more changes nothing
  keeps-all : (b : Built) (n : ℕ) → count_at offset b.written ≤ n → MovesState stage stage rule (with_first stage n) b b
  keeps-all b n few =
      subst (λ t. MovesState t t rule (with_first t n) b b) (sym is)
      (λ s h. let c = count-is b s h in subst (λ (t : State). Represents (stage_of k) rule t b) (sym (all-first k n s (omega (arith, c, few)))) h)

  module _ (old : Built) (n : ℕ) (less : n < count_at offset old.written) where
    abbrev octets : List ℕ
    octets = old.written.octets

    abbrev start : ℕ
    start = last_start old.starts

    -- the first n records can be skipped, and end where the message with them alone ends
    record EndsFirst (s : State) : Type 0 where
      few : n ≤ length (records_at (stage_of k) s)
      within : start ≤ length octets
      skipped : Skipped (SkipsRecord octets) n start (size_after rule (with_first (stage_of k) n) s)

    ends-first : (s : State) → Represents (stage_of k) rule s old → EndsFirst s
    ends-first s h =
        let c = count-is old s h in
        let some : n ≤ length (records_at (stage_of k) s) = omega (arith, c, less) in
        let begins : start ≡ length (encode rule (up_to (prior (Records k)) s)).octets = ap last_start h.starts ∙ last-start (Records k) rule s in
        let same : octets ≡ (encode rule s).octets = ap (λ (w : Written). w.octets) h.written in
        let size = ap (λ (xs : List ℕ). length xs) same in
        let inside = begins-within (Records k) rule s h.state h.last n some in
        record {
          few = some;
          within = omega (arith, begins, size, inside);
          skipped = subst (λ (x : List ℕ × ℕ). Skipped (SkipsRecord x.0) n x.1 (size_after rule (with_first (stage_of k) n) s)) (λ i. (sym same i, sym begins i))
              (skipped-first (Records k) rule s h.state h.last n some);
        }

    -- a rewind cuts the message after the records that stay
    rewinds-to : (end : ℕ) (new : Built) → Skipped (SkipsRecord octets) n start end → new ≡ record old { written = cut_after end offset n old.written }
        → MovesState stage stage rule (with_first stage n) old new
    rewinds-to end new skipped then =
        subst (λ t. MovesState t t rule (with_first t n) old new) (sym is)
        (λ s h. let e = ends-first s h in cuts-after (Records k) rule n end old new s e.few ((records_skip_or_stop octets n).one start end _ skipped e.skipped)
        (then ∙ ap (λ o. record old { written = cut_after end o n old.written }) there) h)

    -- the records that stay can be skipped
    cant-fail : (new : Built) → (start ≤ length octets → (end : ℕ) → Skipped (SkipsRecord octets) n start end → ⊥) → MovesState stage stage rule (with_first stage n) old new
    cant-fail new never =
        subst (λ t. MovesState t t rule (with_first t n) old new) (sym is) (λ s h. let e = ends-first s h in absurd (never e.within _ e.skipped))

  -- A rewind to a mark keeps the first records.
  pub keeps-first : (n : ℕ) (old new : Built) → KeepsFirst n offset old new → MovesState stage stage rule (with_first stage n) old new
  keeps-first n old new (KeepsFirst.all few same) = subst (λ (b : Built). MovesState stage stage rule (with_first stage n) old b) (sym same) (keeps-all old n few)
  keeps-first n old new (KeepsFirst.first less end skipped then) = rewinds-to old n less end new skipped then
  keeps-first n old new (KeepsFirst.none less never same) = cant-fail old n less new never

  back : (xs : List RecordItem) (end n : ℕ) (old now new : Built) (s : State) → Represents (stage_of k) rule s old → Represents (stage_of k) rule (with_records (stage_of k) xs s) now
      → end ≡ length old.written.octets → n ≡ length (records_at (stage_of k) s) → new ≡ record now { written = cut_after end offset n now.written } → new ≡ old
  back xs end n old now new s h g ends all then =
      let pushed = with_records (stage_of k) xs s in
      let kept : with_first (stage_of k) n pushed ≡ s = ap (λ m. with_first (stage_of k) m pushed) all ∙ first-pushed k xs s in
      let longer = more-pushed k xs s in
      let size : end ≡ size_after rule (with_first (stage_of k) n) pushed = ends ∙ ap (λ (w : Written). length w.octets) h.written ∙ ap (λ (t : State). length (encode rule t).octets) (sym kept) in
      let cut = cuts-after (Records k) rule n end now new pushed (omega (arith, longer, all)) size (then ∙ ap (λ o. record now { written = cut_after end o n now.written }) there) g in
      builders_are_known (stage_of k) rule s new old (subst (λ (t : State). Represents (stage_of k) rule t new) kept cut) h

  -- Cut back after records were pushed, a builder is what it was.
  pub cut-back : (end n : ℕ) (old now new : Built) → RepresentsSome stage rule old → InEach stage rule old (λ s. (xs : List RecordItem) × Represents stage rule (with_records stage xs s) now)
      → end ≡ length old.written.octets → InEach stage rule old (λ s. n ≡ length (records_at stage s)) → new ≡ record now { written = cut_after end offset n now.written } → new ≡ old
  cut-back end n old now new some pushed ends all then =
      ∥∥₁_elim some (Coded-set built_code _ _) (λ p.
      let xs = pushed p.0 p.1 in
      subst (λ t. Represents t rule p.0 old → Represents t rule (with_records t xs.0 p.0) now → n ≡ length (records_at t p.0) → new ≡ old) (sym is)
      (λ h g m. back xs.0 end n old now new p.0 h g ends m then) p.1 xs.1 (all p.0 p.1))

-- A rewind to a mark undoes pushes.
pub set-undone : (stage : Stage) (k : Section) → stage ≡ stage_of k → (rule : Rule) (xs : List RecordItem) (n : ℕ) (old now mid new : Built) → RepresentsSome stage rule old
    → InEach stage rule old (λ s. n ≡ length (records_at stage s)) → MovesState stage stage rule (with_records stage xs) old now → mid ≡ now
    → MovesState stage stage rule (with_first stage n) mid new → new ≡ old
set-undone stage k is rule xs n old now mid new some all moves same back =
    ∥∥₁_elim some (Coded-set built_code _ _) (λ p.
    let s : State = p.0 in
    let pushed = subst (Represents stage rule (with_records stage xs s)) (sym same) (moves s p.1) in
    let first = subst (λ t. with_first t (length (records_at t s)) (with_records t xs s) ≡ s) (sym is) (first-pushed k xs s) in
    let kept : with_first stage n (with_records stage xs s) ≡ s = ap (λ m. with_first stage m (with_records stage xs s)) (all s p.1) ∙ first in
    builders_are_known stage rule s new old (subst (λ (t : State). Represents stage rule t new) kept (back (with_records stage xs s) pushed)) p.1)

-- A rewind to a mark undoes one push.
pub push-undone : (stage : Stage) (k : Section) → stage ≡ stage_of k → (rule : Rule) (x : RecordItem) (n : ℕ) (old now mid new : Built) → RepresentsSome stage rule old
    → InEach stage rule old (λ s. n ≡ length (records_at stage s)) → MovesState stage stage rule (with_record stage x) old now → mid ≡ now
    → MovesState stage stage rule (with_first stage n) mid new → new ≡ old
push-undone stage k is rule x = set-undone stage k is rule (x ∷ [])

-- Records that are pushed in order.

-- No records.
pub with-none : (stage : Stage) (s : State) → with_records stage [] s ≡ s
with-none InBuilder s = refl
with-none InQuestion s = refl
with-none InAnswer s = λ i. record s { answers = append-nil s.answers i }
with-none InAuthority s = λ i. record s { authorities = append-nil s.authorities i }
with-none InAdditional s = λ i. record s { additionals = append-nil s.additionals i }

-- Records after others.
pub with-more : (stage : Stage) (xs : List RecordItem) (x : RecordItem) (s : State) → with_record stage x (with_records stage xs s) ≡ with_records stage (xs ++ x ∷ []) s
with-more InBuilder xs x s = refl
with-more InQuestion xs x s = refl
with-more InAnswer xs x s = λ i. record s { answers = append_assoc s.answers xs (x ∷ []) i }
with-more InAuthority xs x s = λ i. record s { authorities = append_assoc s.authorities xs (x ∷ []) i }
with-more InAdditional xs x s = λ i. record s { additionals = append_assoc s.additionals xs (x ∷ []) i }

-- Pushed records don't change the limit.
pub with_records-limit : (stage : Stage) (xs : List RecordItem) (s : State) → (with_records stage xs s).limit ≡ s.limit
with_records-limit InBuilder xs s = refl
with_records-limit InQuestion xs s = refl
with_records-limit InAnswer xs s = refl
with_records-limit InAuthority xs s = refl
with_records-limit InAdditional xs s = refl

-- a list with elements has a last one
last-of : (x : RecordItem) (xs : List RecordItem) → (before : List RecordItem) × (last : RecordItem) × (x ∷ xs ≡ before ++ last ∷ [])
last-of x [] = ([], x, refl)
last-of x (y ∷ ys) = let end = last-of y ys in (x ∷ end.0, end.1, ap (λ (zs : List RecordItem). x ∷ zs) end.2)

module _ (capacity : Option ℕ) (grows : Bool) (rule : Rule) (stage : Stage) (s : State) where
  -- Records that can be pushed leave the message within the limit.
  pub set-within : (xs : List RecordItem) → AllFit capacity grows rule stage s xs → length (encode rule s).octets ≤ s.limit → size_after rule (with_records stage xs) s ≤ s.limit
  set-within [] fit within = subst (λ (t : State). length (encode rule t).octets ≤ s.limit) (sym (with-none stage s)) within
  set-within (x ∷ xs) fit within =
      let end = last-of x xs in
      let before : List RecordItem = end.0 in
      let last : RecordItem = end.1 in
      let out = fit before last [] end.2 in
      let pushed : with_records stage (x ∷ xs) s ≡ with_record stage last (with_records stage before s) =
      ap (λ (ys : List RecordItem). with_records stage ys s) end.2 ∙ sym (with-more stage before last s) in
      let size = ap (λ (t : State). length (encode rule t).octets) pushed in
      let limit = with_records-limit stage before s in
      let short = out.1 in
      omega (arith, size, limit, short)

  none-fit : AllFit capacity grows rule stage s []
  none-fit before x others is = absurd (none_there before others x is)

  one-fits : (xs : List RecordItem) (x : RecordItem) → AllFit capacity grows rule stage s xs → ReturnsAfter capacity grows rule stage s xs x (Ok tt) → AllFit capacity grows rule stage s (xs ++ x ∷ [])
  one-fits xs x fit next before y others is = by (at_end_or_before xs before others x y is)
    where
      by : ((before ≡ xs) × (y ≡ x)) ⊎ ((less : List RecordItem) × (xs ≡ before ++ y ∷ less)) → ReturnsAfter capacity grows rule stage s before y (Ok tt)
      by (inl p) = subst (λ (q : RecordItem × List RecordItem). ReturnsAfter capacity grows rule stage s q.1 q.0 (Ok tt)) (λ i. (sym p.1 i, sym p.0 i)) next
      by (inr p) = fit before y p.0 p.1

  -- The records `xs` are pushed.
  pub record ArePushed (xs : List RecordItem) (now : Built) : Type 0 where
    pub fit : AllFit capacity grows rule stage s xs
    pub represents : Represents stage rule (with_records stage xs s) now

  -- At first none is pushed.
  pub none-pushed : (now : Built) → Represents stage rule s now → ArePushed [] now
  none-pushed now h = record { fit = none-fit; represents = subst (λ (t : State). Represents stage rule t now) (sym (with-none stage s)) h }

  -- One more is pushed.
  pub one-pushed : (xs : List RecordItem) (x : RecordItem) (old new : Built) → ArePushed xs old
      → InEach stage rule old (λ t. PushReturns capacity grows t.limit (size_after rule (with_record stage x) t) (length (records_at stage t)) (Ok tt))
      → MovesState stage stage rule (with_record stage x) old new → ArePushed (xs ++ x ∷ []) new
  one-pushed xs x old new h returns moves = record {
    fit = one-fits xs x h.fit (returns (with_records stage xs s) h.represents);
    represents = subst (λ (t : State). Represents stage rule t new) (with-more stage xs x s) (moves (with_records stage xs s) h.represents);
  }

  -- The next one is refused.
  pub one-refused : (all xs others : List RecordItem) (x : RecordItem) (e : PushError) (old : Built) → all ≡ xs ++ x ∷ others → ArePushed xs old
      → InEach stage rule old (λ t. PushReturns capacity grows t.limit (size_after rule (with_record stage x) t) (length (records_at stage t)) (Err e)) → SetIsRefused capacity grows rule stage s all e
  one-refused all xs others x e old is h returns = record {
    first = xs;
    next = x;
    others = others;
    all = is;
    accepted = h.fit;
    refused = returns (with_records stage xs s) h.represents;
  }

module _ {R : Type 0} (item : R → RecordItem) (rs : List R) (i : ℕ) (r : R) (within : i < length rs) (at_i : r ≡ get_or rs i r) where
  -- The items of one more record.
  pub items-more : map item (take (i + 1) rs) ≡ map item (take i rs) ++ item r ∷ []
  items-more =
      ap (λ n. map item (take n rs)) (add-one i) ∙ ap (map item) (take-suc rs i r within) ∙ map-append item (take i rs) (get_or rs i r ∷ [])
      ∙ ap (λ (x : R). map item (take i rs) ++ item x ∷ []) (sym at_i)

  -- The items before a record, its own, and those after it.
  pub items-split : map item rs ≡ map item (take i rs) ++ item r ∷ map item (drop (i + 1) rs)
  items-split =
      ap (map item) (sym (take-append-drop (i + 1) rs)) ∙ map-append item (take (i + 1) rs) (drop (i + 1) rs)
      ∙ ap (λ (xs : List RecordItem). xs ++ map item (drop (i + 1) rs)) items-more ∙ append_assoc (map item (take i rs)) (item r ∷ []) (map item (drop (i + 1) rs))
