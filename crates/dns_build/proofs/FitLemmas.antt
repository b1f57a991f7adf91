-- Sets of records that are pushed whole into a response, with octets left free, or are left out.
use Rattle.std.proofs.Common.{◌≡◌, ◌∙◌, ℕ, ◌+◌, ◌<◌, ◌≤◌, Bool, true, false, not, ◌&&◌, leb, Option, Some, None, Ok, Err, List, [], ◌∷◌, ◌++◌}
use Rattle.std.proofs.Common.{append-nil, append_assoc, ap, arith, inl, inr, length, length-append, map, refl, subst, sym}
use Rattle.std.proofs.lemmas.Bool.{and_from, and_left, and_right, cond-false, cond-true, le-leb, lt-leb}
use Rattle.std.proofs.lemmas.List.{map-append}
use Rattle.std.specs.Prelude.{IsTrue}
use Rattle.dns_wire.specs.Encoders.{Encoder, Rule, nothing}
use Rattle.dns_wire.specs.Targets.{Exceeds, Fits}
use Rattle.dns_item.specs.Items.{RecordItem, encode_record}
use Rattle.dns_build.specs.BuilderStates.{Built, InEach, MovesState, Represents, size_after}
use Rattle.dns_build.specs.Fitting.{FitsSet, RecordSet, fit_set, goes_in, is_short, is_within, left_out}
use Rattle.dns_build.specs.Reserved.{SetLeaving}
use Rattle.dns_build.specs.Sets.{ReturnsAfter, SetIsRefused}
use Rattle.dns_build.specs.State.{Stage, InBuilder, InQuestion, InAnswer, InAuthority, InAdditional, IsState, State, encoders_of, most_entries, records_at}
use Rattle.dns_build.specs.State.{up_to, with_record, with_records}
use Rattle.dns_build.specs.declared.push_error.PushError.{PushError}
use Rattle.dns_build.specs.declared.push_error.PushError.TheVariants.{CountOverflow, LimitExceeded, ShortBuf, OutOfMemory}
use Rattle.dns_build.proofs.ReservedLemmas.{exceeds_more}
use Rattle.dns_build.proofs.SetLemmas.{with-more, with_records-limit}
use Rattle.dns_build.proofs.theory.MessageSizes.{longer_octets, longer_with_answers, message_size, octets_after}

module _ (rule : Rule) where
  -- The octets of the message of a state.
  abbrev size : State → ℕ
  size = size_after rule (λ s. s)

  -- encodings after those of a message don't shorten it
  grown : (s t : State) (more : List Encoder) → encoders_of rule t ≡ encoders_of rule s ++ more → size s ≤ size t
  grown s t more e =
      let l = longer_octets (encoders_of rule s) more nothing 12 in
      let a = message_size rule s in
      let b : size t ≡ octets_after (encoders_of rule s ++ more) = message_size rule t ∙ ap octets_after e in
      omega (arith, l, a, b)

  longer_last : (stage : Stage) (s : State) (xs ys : List RecordItem) → size (with_records stage xs (up_to stage s)) ≤ size (with_records stage (xs ++ ys) (up_to stage s))
  longer_last InBuilder s xs ys = omega arith
  longer_last InQuestion s xs ys = omega arith
  longer_last InAnswer s xs ys = longer_with_answers rule s xs ys
  longer_last InAuthority s xs ys =
      grown (with_records InAuthority xs (up_to InAuthority s)) (with_records InAuthority (xs ++ ys) (up_to InAuthority s)) (map (encode_record rule) ys) (simp (append-nil, append_assoc, map-append))
  longer_last InAdditional s xs ys =
      grown (with_records InAdditional xs s) (with_records InAdditional (xs ++ ys) s) (map (encode_record rule) ys) (simp (append_assoc, map-append))

  -- Further records don't shorten the message.
  pub longer_with_records : (stage : Stage) (s : State) → s ≡ up_to stage s → (xs ys : List RecordItem) → size (with_records stage xs s) ≤ size (with_records stage (xs ++ ys) s)
  longer_with_records stage s last xs ys =
      subst (λ (t : State). size (with_records stage xs t) ≤ size (with_records stage (xs ++ ys) t)) (sym last) (longer_last stage s xs ys)

-- one record more than can be counted
one_too_many : (stage : Stage) (first : List RecordItem) (next : RecordItem) (others : List RecordItem) (s : State) → length (records_at stage (with_records stage first s)) ≡ most_entries
    → most_entries < length (records_at stage (with_records stage (first ++ next ∷ others) s))
one_too_many InBuilder first next others s full = absurd (omega arith)
one_too_many InQuestion first next others s full = absurd (omega arith)
one_too_many InAnswer first next others s full =
    let a = length-append s.answers first in
    let b = length-append s.answers (first ++ next ∷ others) in
    let c = length-append first (next ∷ others) in
    omega (arith, a, b, c, full)
one_too_many InAuthority first next others s full =
    let a = length-append s.authorities first in
    let b = length-append s.authorities (first ++ next ∷ others) in
    let c = length-append first (next ∷ others) in
    omega (arith, a, b, c, full)
one_too_many InAdditional first next others s full =
    let a = length-append s.additionals first in
    let b = length-append s.additionals (first ++ next ∷ others) in
    let c = length-append first (next ∷ others) in
    omega (arith, a, b, c, full)

-- no section has more records than its count can hold
few_records : (stage : Stage) (s : State) → IsState s → length (records_at stage s) ≤ most_entries
few_records InBuilder s is = omega arith
few_records InQuestion s is = omega arith
few_records InAnswer s is = is.answers.1
few_records InAuthority s is = is.authorities.1
few_records InAdditional s is = is.additionals.1

-- A set that is refused, as a whole.
module _ (capacity : Option ℕ) (grows : Bool) (rule : Rule) (stage : Stage) (r : ℕ) (s : State) (xs : List RecordItem) where
  -- what the whole set exceeds, with the reserved octets
  abbrev IsTooMuch : PushError → Type 0
  IsTooMuch ShortBuf = Exceeds capacity (size rule (with_records stage xs s) + r)
  IsTooMuch OutOfMemory = IsTrue grows
  IsTooMuch LimitExceeded = s.limit < size rule (with_records stage xs s)
  IsTooMuch CountOverflow = most_entries < length (records_at stage (with_records stage xs s))

  -- if one of its records is too much, so is the whole set
  whole-refused : (e : PushError) → s ≡ up_to stage s → SetIsRefused capacity grows rule stage s xs e → IsTooMuch e
  whole-refused e last h = by e h.refused
    where
      whole : (h.first ++ h.next ∷ []) ++ h.others ≡ xs
      whole = append_assoc h.first (h.next ∷ []) h.others ∙ sym h.all

      longest : size_after rule (with_record stage h.next) (with_records stage h.first s) ≤ size_after rule (with_records stage xs) s
      longest =
          let l = longer_with_records rule stage s last (h.first ++ h.next ∷ []) h.others in
          let a = ap (size rule) (with-more stage h.first h.next s) in
          let b = ap (λ (zs : List RecordItem). size rule (with_records stage zs s)) whole in
          omega (arith, l, a, b)

      by : (e : PushError) → ReturnsAfter capacity grows rule stage s h.first h.next (Err e) → IsTooMuch e
      by ShortBuf x =
          exceeds_more capacity (size rule (with_record stage h.next (with_records stage h.first s))) (size rule (with_records stage xs s) + r) (omega (arith, longest)) x
      by OutOfMemory x = x
      by LimitExceeded x = let late = x.1 in let limit = with_records-limit stage h.first s in omega (arith, late, limit, longest)
      by CountOverflow x = subst (λ (zs : List RecordItem). most_entries < length (records_at stage (with_records stage zs s))) (sym h.all) (one_too_many stage h.first h.next h.others s x.2)

  -- a set that is refused is too much
  too-much : (e : PushError) → s ≡ up_to stage s → SetLeaving capacity grows rule stage s r xs (Err e) → IsTooMuch e
  too-much ShortBuf last (inl h) = whole-refused ShortBuf last h
  too-much ShortBuf last (inr h) = h.1
  too-much OutOfMemory last h = h
  too-much LimitExceeded last h = whole-refused LimitExceeded last h
  too-much CountOverflow last h = whole-refused CountOverflow last h

within-true : (capacity : Option ℕ) (n : ℕ) → Fits capacity n → is_within capacity n ≡ true
within-true None n h = refl
within-true (Some most) n h = le-leb n most h

within-false : (capacity : Option ℕ) (n : ℕ) → Exceeds capacity n → is_within capacity n ≡ false
within-false None n h = absurd h
within-false (Some most) n h = lt-leb n most h

-- What fitting a set returns.
module _ (capacity : Option ℕ) (rule : Rule) (stage : Stage) (r : ℕ) (grows : Bool) (x : RecordSet) where
  abbrev after : State → State
  after = with_records stage x.records

  -- the parts of `is_short`
  abbrev within_capacity : State → Bool
  within_capacity s = is_within capacity (size rule (after s) + r)

  abbrev within_limit : State → Bool
  within_limit s = leb (size rule (after s)) (after s).limit

  abbrev within_count : State → Bool
  within_count s = leb (length (records_at stage (after s))) most_entries

  -- the set goes in
  set_goes_in : (s : State) → s.header.tc ≡ false → IsState (after s) → SetLeaving capacity grows rule stage s r x.records (Ok tt) → goes_in capacity rule stage r x.records s ≡ true
  set_goes_in s clear is h =
      let limit = with_records-limit stage x.records s in
      let l = h.2 in
      let within : size rule (after s) ≤ (after s).limit = omega (arith, l, limit) in
      and_from (not s.header.tc) (within_capacity s && (within_limit s && within_count s)) (ap not clear)
      (and_from (within_capacity s) (within_limit s && within_count s) (within-true capacity (size rule (after s) + r) h.1)
      (and_from (within_limit s) (within_count s) (le-leb (size rule (after s)) (after s).limit within)
      (le-leb (length (records_at stage (after s))) most_entries (few_records stage (after s) is))))

  -- the set doesn't go in
  set_stays_out : (s : State) (e : PushError) → (e ≡ OutOfMemory → ⊥) → s ≡ up_to stage s → SetLeaving capacity grows rule stage s r x.records (Err e)
      → goes_in capacity rule stage r x.records s ≡ false
  set_stays_out s e other last h = and_right (not s.header.tc) (within_capacity s && (within_limit s && within_count s)) (by e other (too-much capacity grows rule stage r s x.records e last h))
    where
      by : (e : PushError) → (e ≡ OutOfMemory → ⊥) → IsTooMuch capacity grows rule stage r s x.records e → (within_capacity s && (within_limit s && within_count s)) ≡ false
      by ShortBuf other h = and_left (within_capacity s) (within_limit s && within_count s) (within-false capacity (size rule (after s) + r) h)
      by OutOfMemory other h = absurd (other refl)
      by LimitExceeded other h =
          let limit = with_records-limit stage x.records s in
          let late : (after s).limit < size rule (after s) = omega (arith, h, limit) in
          and_right (within_capacity s) (within_limit s && within_count s) (and_left (within_limit s) (within_count s) (lt-leb (size rule (after s)) (after s).limit late))
      by CountOverflow other h =
          and_right (within_capacity s) (within_limit s && within_count s)
          (and_right (within_limit s) (within_count s) (lt-leb (length (records_at stage (after s))) most_entries h))

  module _ (old new : Built) {E : Type 0} where
    -- TC is set already, so nothing changes.
    pub fits-nothing : InEach stage rule old (λ s. s.header.tc ≡ true) → new ≡ old → FitsSet capacity rule stage r grows x old new {E = E} (Ok false)
    fits-nothing truncated same = record {
      fitted = λ s h.
          let tc = truncated s h in
          let stays = stays_out s tc in
          subst (λ (t : State). Represents stage rule t new) (sym (chosen s stays ∙ still x.required s tc)) (subst (Represents stage rule s) (sym same) h);
      pushed = λ s h. sym (stays_out s (truncated s h));
      failed = tt;
      memory = tt;
    }
      where
        stays_out : (s : State) → s.header.tc ≡ true → goes_in capacity rule stage r x.records s ≡ false
        stays_out s tc = and_left (not s.header.tc) (is_short capacity rule stage r (after s)) (ap not tc)

        still : (required : Bool) (s : State) → s.header.tc ≡ true → left_out required s ≡ s
        still true s tc = λ i. record s { header = record s.header { tc = sym tc i } }
        still false s tc = refl

        chosen : (s : State) → goes_in capacity rule stage r x.records s ≡ false → fit_set capacity rule stage r x s ≡ left_out x.required s
        chosen s e = cond-false (goes_in capacity rule stage r x.records s) (after s) (left_out x.required s) e

    -- The set goes in.
    pub fits-whole : InEach stage rule old (λ s. s.header.tc ≡ false) → InEach stage rule old (λ s. SetLeaving capacity grows rule stage s r x.records (Ok tt))
        → MovesState stage stage rule (with_records stage x.records) old new → FitsSet capacity rule stage r grows x old new {E = E} (Ok true)
    fits-whole clear free moves = record {
      fitted = λ s h.
          let goes = set_goes_in s (clear s h) (moves s h).state (free s h) in
          subst (λ (t : State). Represents stage rule t new) (sym (cond-true (goes_in capacity rule stage r x.records s) (after s) (left_out x.required s) goes)) (moves s h);
      pushed = λ s h. sym (set_goes_in s (clear s h) (moves s h).state (free s h));
      failed = tt;
      memory = tt;
    }

    -- The set doesn't fit.
    pub fits-not : (e : PushError) → (e ≡ OutOfMemory → ⊥) → InEach stage rule old (λ s. SetLeaving capacity grows rule stage s r x.records (Err e))
        → MovesState stage stage rule (left_out x.required) old new → FitsSet capacity rule stage r grows x old new {E = E} (Ok false)
    fits-not e other refused moves = record {
      fitted = λ s h.
          let stays = set_stays_out s e other h.last (refused s h) in
          subst (λ (t : State). Represents stage rule t new) (sym (cond-false (goes_in capacity rule stage r x.records s) (after s) (left_out x.required s) stays)) (moves s h);
      pushed = λ s h. sym (set_stays_out s e other h.last (refused s h));
      failed = tt;
      memory = tt;
    }

    -- An allocation failed.
    pub fits-out : IsTrue grows → MovesState stage stage rule (left_out x.required) old new → (e : E) → FitsSet capacity rule stage r grows x old new {E = E} (Err e)
    fits-out grown moves e = record { fitted = tt; pushed = tt; failed = moves; memory = grown }
