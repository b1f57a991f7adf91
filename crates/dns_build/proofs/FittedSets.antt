-- Sets of records that are fitted in order: TC is set exactly if a required one is missing, then no set goes in, and a short message stays short.
use Rattle.std.proofs.Common.{◌≡◌, ◌∙◌, ℕ, Bool, true, false, not, ◌&&◌, Option, List, [], ◌∷◌, ◌++◌, ap, inl, inr, length, refl, sym}
use Rattle.std.proofs.lemmas.Bool.{and_left, and_parts, cond-false, cond-true, cond_both, false≢true, or_right}
use Rattle.std.specs.Prelude.{nat_le, ◌||◌, ◌+◌}
use Rattle.dns_wire.specs.Encoders.{Rule}
use Rattle.dns_code.specs.Header.{HeaderFields}
use Rattle.dns_item.specs.Items.{RecordItem}
use Rattle.dns_build.specs.Fitting.{MissesAnyRequired, MissesRequired, RecordSet, ResponseSets, SetsAreFitted, answers_fitted, authorities_fitted, response_fitted}
use Rattle.dns_build.specs.Fitting.{fit_set, fit_sets, goes_in, is_short, is_within, left_out}
use Rattle.dns_build.specs.State.{Stage, InBuilder, InQuestion, InAnswer, InAuthority, InAdditional, State, most_entries, records_at, with_header, with_records}
use Rattle.dns_build.proofs.theory.MessageSizes.{size_with_header}

with_records-header : (stage : Stage) (xs : List RecordItem) (s : State) → (with_records stage xs s).header ≡ s.header
with_records-header InBuilder xs s = refl
with_records-header InQuestion xs s = refl
with_records-header InAnswer xs s = refl
with_records-header InAuthority xs s = refl
with_records-header InAdditional xs s = refl

records_at-header : (stage : Stage) (header : HeaderFields) (s : State) → records_at stage (with_header header s) ≡ records_at stage s
records_at-header InBuilder header s = refl
records_at-header InQuestion header s = refl
records_at-header InAnswer header s = refl
records_at-header InAuthority header s = refl
records_at-header InAdditional header s = refl

module _ (capacity : Option ℕ) (rule : Rule) (stage : Stage) (reserved : ℕ) where
  abbrev fit_one : RecordSet → State → State
  fit_one = fit_set capacity rule stage reserved

  abbrev fit_all : List RecordSet → State → State
  fit_all = fit_sets capacity rule stage reserved

  abbrev tc : State → Bool
  tc s = s.header.tc

  -- a set that goes in leaves TC
  tc_kept : (x : RecordSet) (s : State) → goes_in capacity rule stage reserved x.records s ≡ true → tc (fit_one x s) ≡ tc s
  tc_kept x s e = ap tc (cond-true (goes_in capacity rule stage reserved x.records s) (with_records stage x.records s) (left_out x.required s) e)
      ∙ ap (λ (h : HeaderFields). h.tc) (with_records-header stage x.records s)

  -- one that is left out sets it if it's required
  tc_left : (x : RecordSet) (s : State) → goes_in capacity rule stage reserved x.records s ≡ false → tc (fit_one x s) ≡ (x.required || tc s)
  tc_left x s e = ap tc (cond-false (goes_in capacity rule stage reserved x.records s) (with_records stage x.records s) (left_out x.required s) e)

  -- once TC is set a set changes nothing
  one_kept : (x : RecordSet) (s : State) → tc s ≡ true → fit_one x s ≡ s
  one_kept x s e =
      let out : goes_in capacity rule stage reserved x.records s ≡ false = and_left (not s.header.tc) (is_short capacity rule stage reserved (with_records stage x.records s)) (ap not e) in
      cond-false (goes_in capacity rule stage reserved x.records s) (with_records stage x.records s) (left_out x.required s) out
      ∙ ap (λ (b : Bool). with_header (record s.header { tc = b }) s) (or_right x.required (tc s) e ∙ sym e)

  -- nor do sets
  all_kept : (xs : List RecordSet) (s : State) → tc s ≡ true → fit_all xs s ≡ s
  all_kept [] s e = refl
  all_kept (x ∷ xs) s e = ap (λ (t : State). fit_all xs t) (one_kept x s e) ∙ all_kept xs s e

  -- TC isn't cleared
  tc_stays : (xs : List RecordSet) (s : State) → tc s ≡ true → tc (fit_all xs s) ≡ true
  tc_stays xs s e = ap tc (all_kept xs s e) ∙ e

  -- a missing required set sets TC
  missing_truncates : (before : List RecordSet) (x : RecordSet) (after : List RecordSet) (s : State) → x.required ≡ true
      → goes_in capacity rule stage reserved x.records (fit_all before s) ≡ false → tc (fit_all (before ++ x ∷ after) s) ≡ true
  missing_truncates [] x after s needed out = tc_stays after (fit_one x s) (tc_left x s out ∙ ap (λ b. b || tc s) needed)
  missing_truncates (y ∷ before) x after s needed out = missing_truncates before x after (fit_one y s) needed out

  -- one set more before the others
  misses_later : (x : RecordSet) (xs : List RecordSet) (s : State) → MissesRequired capacity rule stage reserved xs (fit_one x s) → MissesRequired capacity rule stage reserved (x ∷ xs) s
  misses_later x xs s h = record { before = x ∷ h.before; missing = h.missing; after = h.after; all = ap (λ (ys : List RecordSet). x ∷ ys) h.all; required = h.required; refused = h.refused }

  -- a set after which TC is set
  truncated_at : (x : RecordSet) (xs : List RecordSet) (s : State) → tc s ≡ false → (tc (fit_one x s) ≡ false → MissesRequired capacity rule stage reserved xs (fit_one x s))
      → MissesRequired capacity rule stage reserved (x ∷ xs) s
  truncated_at x xs s clear later = by (goes_in capacity rule stage reserved x.records s) refl
    where
      left : (b : Bool) → x.required ≡ b → goes_in capacity rule stage reserved x.records s ≡ false → MissesRequired capacity rule stage reserved (x ∷ xs) s
      left true needed out = record { before = []; missing = x; after = xs; all = refl; required = needed; refused = out }
      left false optional out = misses_later x xs s (later (tc_left x s out ∙ ap (λ b. b || tc s) optional ∙ clear))

      by : (b : Bool) → goes_in capacity rule stage reserved x.records s ≡ b → MissesRequired capacity rule stage reserved (x ∷ xs) s
      by true e = misses_later x xs s (later (tc_kept x s e ∙ clear))
      by false e = left x.required refl e

  -- TC is set only by a required one that is missing
  truncated_misses : (xs : List RecordSet) (s : State) → tc s ≡ false → tc (fit_all xs s) ≡ true → MissesRequired capacity rule stage reserved xs s
  truncated_misses [] s clear set = absurd (false≢true (sym clear ∙ set))
  truncated_misses (x ∷ xs) s clear set = truncated_at x xs s clear (λ still. truncated_misses xs (fit_one x s) still set)

  -- another header doesn't matter for the length
  short-header : (header : HeaderFields) (s : State) → is_short capacity rule stage reserved (with_header header s) ≡ is_short capacity rule stage reserved s
  short-header header s = λ i.
      let n = size_with_header rule header s i in
      is_within capacity (n + reserved) && (nat_le n s.limit && nat_le (length (records_at-header stage header s i)) most_entries)

  -- a short message stays short
  short_stays : (xs : List RecordSet) (s : State) → is_short capacity rule stage reserved s ≡ true → is_short capacity rule stage reserved (fit_all xs s) ≡ true
  short_stays [] s e = e
  short_stays (x ∷ xs) s e =
      short_stays xs (fit_one x s)
      (cond_both (goes_in capacity rule stage reserved x.records s) (with_records stage x.records s) (left_out x.required s) (λ (t : State). is_short capacity rule stage reserved t ≡ true)
      (λ goes. (and_parts (not s.header.tc) (is_short capacity rule stage reserved (with_records stage x.records s)) goes).1)
      (λ out. short-header (record s.header { tc = x.required || s.header.tc }) s ∙ e))

-- a required set that is missing from a list sets TC
missing_sets_tc : (capacity : Option ℕ) (rule : Rule) (stage : Stage) (reserved : ℕ) (xs : List RecordSet) (s : State) → MissesRequired capacity rule stage reserved xs s
    → (fit_sets capacity rule stage reserved xs s).header.tc ≡ true
missing_sets_tc capacity rule stage reserved xs s h =
    ap (λ (ys : List RecordSet). (fit_sets capacity rule stage reserved ys s).header.tc) h.all
    ∙ missing_truncates capacity rule stage reserved h.before h.missing h.after s h.required h.refused

module _ (capacity : Option ℕ) (rule : Rule) (reserved : ℕ) (x : ResponseSets) (s : State) where
  -- a required set that is missing from a section sets TC, which stays set
  missing_from_any : MissesAnyRequired capacity rule reserved x s → (response_fitted capacity rule reserved x s).header.tc ≡ true
  missing_from_any (inl h) =
      tc_stays capacity rule InAdditional reserved x.additionals (authorities_fitted capacity rule reserved x s)
      (tc_stays capacity rule InAuthority reserved x.authorities (answers_fitted capacity rule reserved x s) (missing_sets_tc capacity rule InAnswer reserved x.answers s h))
  missing_from_any (inr (inl h)) =
      tc_stays capacity rule InAdditional reserved x.additionals (authorities_fitted capacity rule reserved x s)
      (missing_sets_tc capacity rule InAuthority reserved x.authorities (answers_fitted capacity rule reserved x s) h)
  missing_from_any (inr (inr h)) = missing_sets_tc capacity rule InAdditional reserved x.additionals (authorities_fitted capacity rule reserved x s) h

  -- TC is set only by a required one that is missing from a section
  any_missing : s.header.tc ≡ false → (response_fitted capacity rule reserved x s).header.tc ≡ true → MissesAnyRequired capacity rule reserved x s
  any_missing clear set = after_answers (answers_fitted capacity rule reserved x s).header.tc refl
    where
      after_authorities : (b : Bool) → (answers_fitted capacity rule reserved x s).header.tc ≡ false → (authorities_fitted capacity rule reserved x s).header.tc ≡ b
          → MissesAnyRequired capacity rule reserved x s
      after_authorities true still e = inr (inl (truncated_misses capacity rule InAuthority reserved x.authorities (answers_fitted capacity rule reserved x s) still e))
      after_authorities false still e =
          inr (inr (truncated_misses capacity rule InAdditional reserved x.additionals (authorities_fitted capacity rule reserved x s) e set))

      after_answers : (b : Bool) → (answers_fitted capacity rule reserved x s).header.tc ≡ b → MissesAnyRequired capacity rule reserved x s
      after_answers true e = inl (truncated_misses capacity rule InAnswer reserved x.answers s clear e)
      after_answers false e = after_authorities (authorities_fitted capacity rule reserved x s).header.tc e refl

-- TC is set exactly if a required set is missing, then no set goes in, and a short message stays short.
pub sets_are_fitted : SetsAreFitted
sets_are_fitted = record {
  truncated = λ capacity rule stage reserved xs s clear. (truncated_misses capacity rule stage reserved xs s clear, missing_sets_tc capacity rule stage reserved xs s);
  kept = all_kept;
  response = λ capacity rule reserved x s clear. (any_missing capacity rule reserved x s clear, missing_from_any capacity rule reserved x s);
  short = short_stays;
}
