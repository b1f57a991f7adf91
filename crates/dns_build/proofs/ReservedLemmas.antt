-- Octets that are reserved.
use Rattle.std.proofs.Common.{◌≡◌, ◌∙◌, ℕ, ◌+◌, ◌-◌, ◌<◌, ◌≤◌, ◌^◌, Bool, Option, Some, None, Result, Ok, Err, List, [], ◌∷◌}
use Rattle.std.proofs.Common.{◌++◌, append_assoc, ap, arith, inl, inr, length, length-append, refl, replicate, subst, sym}
use Rattle.std.proofs.lemmas.List.{length-replicate, replicate-append-replicate}
use Rattle.std.proofs.Math.Bool.{Bool-set}
use Rattle.std.proofs.Math.Bridge.{le_prop}
use Rattle.std.proofs.Math.Logic.{∥∥₁_elim}
use Rattle.std.specs.Coded.{coded_ℕ}
use Rattle.std.specs.Prelude.{IsTrue}
use base.Stored.{Coded-set}
use Rattle.dns_octets.specs.declared.error.AppendError.{AppendError}
use Rattle.dns_octets.specs.declared.error.AppendError.TheVariants.{ShortBuf as short, OutOfMemory as out}
use Rattle.dns_wire.specs.Encoders.{Encoder, IsGrowing, Rule, encode_octets}
use Rattle.dns_wire.specs.Targets.{Appends, ComposeReturns, Composes, Exceeds, Fits, Written, append, cut_to}
use Rattle.dns_wire.proofs.theory.EncodedNames.{encode_octets_grows}
use Rattle.dns_wire.proofs.theory.EncoderLaws.{cut_to-append, same_written}
use Rattle.dns_code.specs.Header.{HeaderFields}
use Rattle.dns_item.specs.Items.{RecordItem}
use Rattle.dns_build.specs.BuilderStates.{Built, InEach, IsMessage, MovesState, PushReturns, Represents, RepresentsSome, push_error, size_after}
use Rattle.dns_build.specs.Reserved.{IsReserved, PushLeaving, SetLeaving}
use Rattle.dns_build.specs.Sets.{AllFit, SetIsRefused}
use Rattle.dns_build.specs.State.{Stage, InAnswer, InAuthority, InAdditional, State, encode, move_to, records_at, up_to, with_header, with_limit, with_record, with_records}
use Rattle.dns_build.specs.declared.push_error.PushError.{PushError}
use Rattle.dns_build.specs.declared.push_error.PushError.TheVariants.{CountOverflow, LimitExceeded, ShortBuf, OutOfMemory}
use Rattle.dns_build.proofs.Messages.{restored, taken_back}
use Rattle.dns_build.proofs.SetLemmas.{set-within, with_records-limit}
use Rattle.dns_build.proofs.theory.Encodings.{append-nothing, encode-message}
use Rattle.dns_build.proofs.theory.MessageSizes.{size_with_header}

-- If n octets exceed the capacity, so do more.
pub exceeds_more : (capacity : Option ℕ) (n m : ℕ) → n ≤ m → Exceeds capacity n → Exceeds capacity m
exceeds_more None n m l h = h
exceeds_more (Some most) n m l h = omega arith

-- octets that fit are within the capacity
pub fits_at : (capacity : Option ℕ) (n : ℕ) → Fits capacity n → (most : ℕ) → capacity ≡ Some most → n ≤ most
fits_at None n h most is = absurd (cc)
fits_at (Some c) n h most is = let same : c ≡ most = cc in omega arith

-- octets within the capacity fit
pub fits_of : (capacity : Option ℕ) (n : ℕ) → ((most : ℕ) → capacity ≡ Some most → n ≤ most) → Fits capacity n
fits_of None n h = tt
fits_of (Some c) n h = h c refl

-- fewer octets fit too
pub fits_less : (capacity : Option ℕ) (n m : ℕ) → n ≤ m → Fits capacity m → Fits capacity n
fits_less None n m l h = tt
fits_less (Some most) n m l h = omega arith

-- Zero octets that are appended.

-- At first there are none.
pub zeros-none : (n : ℕ) (t : Written) → n ≡ 0 → t ≡ append (encode_octets (replicate n 0)) t
zeros-none n t is = sym (append-nothing t) ∙ ap (λ m. append (encode_octets (replicate m 0)) t) (sym is)

-- Further zero octets.
pub zeros-more : (n k m : ℕ) (t : Written) → n + k ≡ m
    → append (encode_octets (replicate k 0)) (append (encode_octets (replicate n 0)) t) ≡ append (encode_octets (replicate m 0)) t
zeros-more n k m t is =
    same_written _ _
    (append_assoc t.octets (replicate n 0) (replicate k 0) ∙ ap (λ (xs : List ℕ). t.octets ++ xs) (replicate-append-replicate n k 0 ∙ ap (λ j. replicate j 0) is)) refl

-- The length with them.
pub zeros-size : (n : ℕ) (t : Written) → length (append (encode_octets (replicate n 0)) t).octets ≡ length t.octets + n
zeros-size n t = length-append t.octets (replicate n 0) ∙ ap (λ m. length t.octets + m) (length-replicate n 0)

-- After the first i of them, k more can't be appended.
pub zeros-refused : (capacity : Option ℕ) (grows : Bool) (t u v : Written) (n i k : ℕ) (e : AppendError) → u ≡ append (encode_octets (replicate i 0)) t → i + k ≤ n
    → Appends capacity grows (encode_octets (replicate k 0)) u v {X = Unit {0}} (Err e) → Composes capacity grows (encode_octets (replicate n 0)) t v {X = Unit {0}} (Err e)
zeros-refused capacity grows t u v n i k e is few h = by e h
  where
    undone : v ≡ u → cut_to (length t.octets) v ≡ cut_to (length t.octets) t
    undone same = ap (cut_to (length t.octets)) (same ∙ is) ∙ cut_to-append (encode_octets (replicate i 0)) t (length t.octets) (encode_octets_grows (replicate i 0)) (omega arith)

    longer : length (append (encode_octets (replicate k 0)) u).octets ≤ length (append (encode_octets (replicate n 0)) t).octets
    longer =
        let a = zeros-size k u in
        let b = ap (λ (w : Written). length w.octets) is ∙ zeros-size i t in
        let c = zeros-size n t in
        omega (arith, a, b, c)

    by : (e : AppendError) → Appends capacity grows (encode_octets (replicate k 0)) u v {X = Unit {0}} (Err e) → Composes capacity grows (encode_octets (replicate n 0)) t v {X = Unit {0}} (Err e)
    by short h = record { ok = tt; err = undone h.err; outcome = exceeds_more capacity _ _ longer h.outcome }
    by out h = record { ok = tt; err = undone h.err; outcome = h.outcome.1 }

-- All of them are appended.
pub zeros-appended : (capacity : Option ℕ) (grows : Bool) (t u : Written) (n i : ℕ) → i ≡ n → u ≡ append (encode_octets (replicate i 0)) t → Fits capacity (length u.octets)
    → Composes capacity grows (encode_octets (replicate n 0)) t u {X = Unit {0}} (Ok tt)
zeros-appended capacity grows t u n i all is fits =
    let same : u ≡ append (encode_octets (replicate n 0)) t = is ∙ ap (λ m. append (encode_octets (replicate m 0)) t) all in
    record { ok = same; err = tt; outcome = subst (λ (w : Written). Fits capacity (length w.octets)) same fits }

-- Cut back after an encoding was composed, or failed to be, a message is what it was.
pub undone : (capacity : Option ℕ) (grows : Bool) (encoder : Encoder) (t u v : Written) (r : Result (Unit {0}) AppendError) (n : ℕ) → IsGrowing encoder → IsMessage t → n ≡ length t.octets
    → Composes capacity grows encoder t u r → v ≡ cut_to n u → v ≡ t
undone capacity grows encoder t u v (Ok x) n g h is c cut = taken_back encoder t u v n g h is c.ok cut
undone capacity grows encoder t u v (Err e) n g h is c cut = restored t u v n h is c.err cut

module _ (capacity : Option ℕ) (rule : Rule) (stage : Stage) (xs : List RecordItem) (r : ℕ) (old new : Built) where
  -- the length after a push
  size_pushed : MovesState stage stage rule (with_records stage xs) old new → (s : State) → Represents stage rule s old → length new.written.octets ≡ size_after rule (with_records stage xs) s
  size_pushed moves s h = ap (λ (w : Written). length w.octets) (moves s h).written

  -- A push that leaves the reserved octets free.
  pub leaves : RepresentsSome stage rule old → InEach stage rule old (λ s. size_after rule (with_records stage xs) s ≤ s.limit)
      → MovesState stage stage rule (with_records stage xs) old new → Fits capacity (length new.written.octets + r) → IsReserved capacity (record { built = old; reserved = r })
      → IsReserved capacity (record { built = new; reserved = r })
  leaves some limited moves fits is = record {
    fits = fits_at capacity (length new.written.octets + r) fits;
    within = ∥∥₁_elim some le_prop (λ p.
        let size = size_pushed moves p.0 p.1 in
        let within = limited p.0 p.1 in
        let limit = (moves p.0 p.1).limit ∙ with_records-limit stage xs p.0 in
        omega (arith, size, within, limit));
    limited = ∥∥₁_elim some le_prop (λ p.
        let limit = (moves p.0 p.1).limit ∙ with_records-limit stage xs p.0 ∙ sym p.1.limit in
        let before = is.limited in
        omega (arith, limit, before));
  }

module _ (capacity : Option ℕ) (grows : Bool) (rule : Rule) (stage : Stage) (x : RecordItem) (r : ℕ) (old new : Built) where
  -- Its result.
  pub left-free : InEach stage rule old (λ s. PushReturns capacity grows s.limit (size_after rule (with_record stage x) s) (length (records_at stage s)) (Ok tt))
      → MovesState stage stage rule (with_record stage x) old new → Fits capacity (length new.written.octets + r)
      → InEach stage rule old (λ s. PushLeaving capacity grows s.limit r (size_after rule (with_record stage x) s) (length (records_at stage s)) (Ok tt))
  left-free returns moves fits s h =
      let out = returns s h in
      (subst (λ n. Fits capacity (n + r)) (size_pushed capacity rule stage (x ∷ []) r old new moves s h) fits, out.1, out.2)

  -- After a push the reserved octets don't fit.
  pub not-left : (e : AppendError) → InEach stage rule old (λ s. PushReturns capacity grows s.limit (size_after rule (with_record stage x) s) (length (records_at stage s)) (Ok tt))
      → MovesState stage stage rule (with_record stage x) old new → ComposeReturns {X = Unit {0}} capacity grows (length new.written.octets + r) (Err e)
      → InEach stage rule old (λ s. PushLeaving capacity grows s.limit r (size_after rule (with_record stage x) s) (length (records_at stage s)) (Err (push_error e)))
  not-left short returns moves exceeds s h =
      let out = returns s h in
      inr (subst (λ n. Exceeds capacity (n + r)) (size_pushed capacity rule stage (x ∷ []) r old new moves s h) exceeds, out.1, out.2)
  not-left out returns moves grown s h = grown

module _ (capacity : Option ℕ) (grows : Bool) (rule : Rule) (stage : Stage) (xs : List RecordItem) (r : ℕ) (old new : Built) where
  -- it is within the limit
  set-limited : InEach stage rule old (λ s. AllFit capacity grows rule stage s xs) → IsReserved capacity (record { built = old; reserved = r })
      → InEach stage rule old (λ s. size_after rule (with_records stage xs) s ≤ s.limit)
  set-limited fit is s h =
      let size = ap (λ (w : Written). length w.octets) h.written in
      let limit = h.limit in
      let within = is.within in
      set-within capacity grows rule stage s xs (fit s h) (omega (arith, size, limit, within))

  -- A set that leaves the reserved octets free.
  pub set-leaves : RepresentsSome stage rule old → InEach stage rule old (λ s. AllFit capacity grows rule stage s xs) → MovesState stage stage rule (with_records stage xs) old new
      → Fits capacity (length new.written.octets + r) → IsReserved capacity (record { built = old; reserved = r }) → IsReserved capacity (record { built = new; reserved = r })
  set-leaves some fit moves fits is = leaves capacity rule stage xs r old new some (set-limited fit is) moves fits is

  -- Its result.
  pub set-left-free : InEach stage rule old (λ s. AllFit capacity grows rule stage s xs) → MovesState stage stage rule (with_records stage xs) old new
      → Fits capacity (length new.written.octets + r) → IsReserved capacity (record { built = old; reserved = r })
      → InEach stage rule old (λ s. SetLeaving capacity grows rule stage s r xs (Ok tt))
  set-left-free fit moves fits is s h =
      (fit s h, subst (λ n. Fits capacity (n + r)) (size_pushed capacity rule stage xs r old new moves s h) fits, set-limited fit is s h)

  -- After a set the reserved octets don't fit.
  pub set-not-left : (e : AppendError) → InEach stage rule old (λ s. AllFit capacity grows rule stage s xs) → MovesState stage stage rule (with_records stage xs) old new
      → ComposeReturns {X = Unit {0}} capacity grows (length new.written.octets + r) (Err e) → InEach stage rule old (λ s. SetLeaving capacity grows rule stage s r xs (Err (push_error e)))
  set-not-left short fit moves exceeds s h = inr (fit s h, subst (λ n. Exceeds capacity (n + r)) (size_pushed capacity rule stage xs r old new moves s h) exceeds)
  set-not-left out fit moves grown s h = grown

-- A set is refused.
pub set-refused-before : (capacity : Option ℕ) (grows : Bool) (rule : Rule) (stage : Stage) (s : State) (r : ℕ) (xs : List RecordItem) (e : PushError)
    → SetIsRefused capacity grows rule stage s xs e → SetLeaving capacity grows rule stage s r xs (Err e)
set-refused-before capacity grows rule stage s r xs ShortBuf h = inl h
set-refused-before capacity grows rule stage s r xs OutOfMemory h = h.refused
set-refused-before capacity grows rule stage s r xs LimitExceeded h = h
set-refused-before capacity grows rule stage s r xs CountOverflow h = h

-- Octets aren't left free for memory alone: the target may allocate.
pub grows-refused : (capacity : Option ℕ) (grows : Bool) (n : ℕ) (e : AppendError) (f : PushError) (result : Result (Unit {0}) PushError)
    → ComposeReturns {X = Unit {0}} capacity grows n (Err e) → f ≡ push_error e → result ≡ Err f → result ≡ Err OutOfMemory → IsTrue grows
grows-refused capacity grows n short f result h is refused same = let full : f ≡ ShortBuf = is in absurd (cc)
grows-refused capacity grows n out f result h is refused same = h

-- A push is refused.
pub refused-before : (capacity : Option ℕ) (grows : Bool) (limit r n count : ℕ) (e : PushError) → PushReturns capacity grows limit n count (Err e) → PushLeaving capacity grows limit r n count (Err e)
refused-before capacity grows limit r n count ShortBuf h = inl h
refused-before capacity grows limit r n count OutOfMemory h = h
refused-before capacity grows limit r n count LimitExceeded h = h
refused-before capacity grows limit r n count CountOverflow h = h

-- Octets don't fit the capacity.
pub fits-refused : (capacity : Option ℕ) (grows : Bool) (limit n : ℕ) (e : AppendError)
    → ComposeReturns {X = Unit {0}} capacity grows n (Err e) → PushReturns capacity grows limit n 0 (Err (push_error e))
fits-refused capacity grows limit n short h = h
fits-refused capacity grows limit n out h = h

-- Octets are reserved.
pub reserves : (capacity : Option ℕ) (old mid new : Built) (r limit : ℕ) → mid ≡ old → new ≡ record mid { limit = limit - r } → Fits capacity (length old.written.octets + r)
    → length old.written.octets + r ≤ limit → limit < 2 ^ 64 → IsReserved capacity (record { built = new; reserved = r })
reserves capacity old mid new r limit same then fits within small =
    let is : new ≡ record old { limit = limit - r } = then ∙ ap (λ (b : Built). record b { limit = limit - r }) same in
    let size = ap (λ (b : Built). length b.written.octets) is in
    let lowered = ap (λ (b : Built). b.limit) is in
    record {
      fits = fits_at capacity (length new.written.octets + r) (subst (λ n. Fits capacity (n + r)) (sym size) fits);
      within = omega (arith, size, lowered, within);
      limited = omega (arith, lowered, within, small);
    }

-- Octets stay reserved if length and limit stay.
still-reserved : (capacity : Option ℕ) (old new : Built) (r : ℕ) → length new.written.octets ≡ length old.written.octets → new.limit ≡ old.limit
    → IsReserved capacity (record { built = old; reserved = r }) → IsReserved capacity (record { built = new; reserved = r })
still-reserved capacity old new r size limit is =
    let within = is.within in
    let small = is.limited in
    record {
      fits = λ most e. let l = is.fits most e in omega (arith, l, size);
      within = omega (arith, within, size, limit);
      limited = omega (arith, small, limit);
    }

-- A new header keeps octets reserved.
pub headed-reserved : (capacity : Option ℕ) (stage : Stage) (rule : Rule) (header : HeaderFields) (old new : Built) (r : ℕ) → RepresentsSome stage rule old
    → MovesState stage stage rule (with_header header) old new → IsReserved capacity (record { built = old; reserved = r }) → IsReserved capacity (record { built = new; reserved = r })
headed-reserved capacity stage rule header old new r some moves =
    still-reserved capacity old new r
    (∥∥₁_elim some (Coded-set coded_ℕ _ _) (λ p.
    ap (λ (w : Written). length w.octets) (moves p.0 p.1).written ∙ size_with_header rule header p.0 ∙ ap (λ (w : Written). length w.octets) (sym p.1.written)))
    (∥∥₁_elim some (Coded-set coded_ℕ _ _) (λ p. (moves p.0 p.1).limit ∙ sym p.1.limit))

-- Moves to a later section keep the octets reserved.

module _ (capacity : Option ℕ) (from to : Stage) (rule : Rule) (old new : Built) (r : ℕ) (same : (s : State) → encode rule (move_to to (up_to from s)) ≡ encode rule (up_to from s))
    (limited : (s : State) → (move_to to s).limit ≡ s.limit) where
  -- a builder that moved to a later section has the octets reserved that it had
  pub moved-reserved : RepresentsSome from rule old → MovesState from to rule (move_to to) old new → IsReserved capacity (record { built = old; reserved = r })
      → IsReserved capacity (record { built = new; reserved = r })
  moved-reserved some moves =
      still-reserved capacity old new r
      (∥∥₁_elim some (Coded-set coded_ℕ _ _) (λ p. ap (λ (w : Written). length w.octets)
      ((moves p.0 p.1).written ∙ ap (λ (t : State). encode rule (move_to to t)) p.1.last ∙ same p.0 ∙ ap (encode rule) (sym p.1.last) ∙ sym p.1.written)))
      (∥∥₁_elim some (Coded-set coded_ℕ _ _) (λ p. (moves p.0 p.1).limit ∙ limited p.0 ∙ sym p.1.limit))

-- No octets are written when the authority section is entered.
pub answers-end : (rule : Rule) (s : State) → encode rule (move_to InAuthority (up_to InAnswer s)) ≡ encode rule (up_to InAnswer s)
unfolding encode
answers-end rule s = refl

-- No octets are written when the additional section is entered.
pub authorities-end : (rule : Rule) (s : State) → encode rule (move_to InAdditional (up_to InAuthority s)) ≡ encode rule (up_to InAuthority s)
unfolding encode
authorities-end rule s = refl

-- The limit doesn't change how long a message is.
pub size-limited : (rule : Rule) (x : RecordItem) (limit : ℕ) (s : State) → size_after rule (with_record InAdditional x) (with_limit limit s) ≡ size_after rule (with_record InAdditional x) s
size-limited rule x limit s =
    ap (λ (w : Written). length w.octets) (encode-message rule (with_record InAdditional x (with_limit limit s)) ∙ sym (encode-message rule (with_record InAdditional x s)))

-- The outcome of a push after the reserved octets are released.
pub released-outcome : (capacity : Option ℕ) (grows : Bool) (rule : Rule) (x : RecordItem) (r limit : ℕ) (s : State) (result : Result (Unit {0}) PushError) → limit ≡ s.limit
    → PushReturns capacity grows (limit + r) (size_after rule (with_record InAdditional x) (with_limit (limit + r) s)) (length s.additionals) result
    → PushReturns capacity grows (s.limit + r) (size_after rule (with_record InAdditional x) s) (length s.additionals) result
released-outcome capacity grows rule x r limit s result is h =
    subst (λ n. PushReturns capacity grows (n + r) (size_after rule (with_record InAdditional x) s) (length s.additionals) result) is
    (subst (λ n. PushReturns capacity grows (limit + r) n (length s.additionals) result) (size-limited rule x (limit + r) s) h)

exceeds_not : (capacity : Option ℕ) (n : ℕ) → Fits capacity n → Exceeds capacity n → ⊥
exceeds_not None n f e = e
exceeds_not (Some most) n f e = omega arith

-- A push isn't refused for capacity or limit if the message with the item is within both.
pub not-for-capacity : (capacity : Option ℕ) (grows : Bool) (limit n count : ℕ) (e : PushError) → Fits capacity n → n ≤ limit → PushReturns capacity grows limit n count (Err e)
    → (e ≡ ShortBuf → ⊥) × (e ≡ LimitExceeded → ⊥)
not-for-capacity capacity grows limit n count ShortBuf f l h = absurd (exceeds_not capacity n f h)
not-for-capacity capacity grows limit n count LimitExceeded f l h = absurd (let late : limit < n = h.1 in omega arith)
not-for-capacity capacity grows limit n count OutOfMemory f l h = (λ is. absurd (cc), λ is. absurd (cc))
not-for-capacity capacity grows limit n count CountOverflow f l h = (λ is. absurd (cc), λ is. absurd (cc))

-- A push that fails for memory is onto a target that may allocate.
pub grows-at : (capacity : Option ℕ) (grows : Bool) (stage : Stage) (rule : Rule) (old : Built) (limit size count : State → ℕ) (result : Result (Unit {0}) PushError)
    → RepresentsSome stage rule old → InEach stage rule old (λ s. PushReturns capacity grows (limit s) (size s) (count s) result) → result ≡ Err OutOfMemory → IsTrue grows
grows-at capacity grows stage rule old limit size count result some returns is =
    ∥∥₁_elim some (Bool-set _ _) (λ p. subst (PushReturns capacity grows (limit p.0) (size p.0) (count p.0)) is (returns p.0 p.1))
