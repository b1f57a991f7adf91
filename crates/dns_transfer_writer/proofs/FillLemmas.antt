-- Records that are pushed while they fit.
use Rattle.std.proofs.Common.{◌≡◌, ◌∙◌, ℕ, Bool, true, false, Option, List, [], ◌∷◌, ◌++◌, append_assoc, append-nil, ap, sym, refl, subst, inl, inr, length}
use Rattle.std.specs.Prelude.{Result, Ok, Err}
use Rattle.dns_wire.specs.Encoders.{Rule}
use Rattle.dns_item.specs.Items.{RecordItem}
use Rattle.dns_build.specs.BuilderStates.{Built, InEach, MovesState, PushReturns, Represents, size_after}
use Rattle.dns_build.specs.State.{InAnswer, State, with_record, with_records}
use Rattle.dns_build.specs.declared.push_error.PushError.{PushError}
use Rattle.dns_build.specs.declared.push_error.PushError.TheVariants.{CountOverflow, LimitExceeded, OutOfMemory, ShortBuf}
use Rattle.dns_transfer_writer.specs.Filling.{Filling, Fills, IsTooMuch, MessageFits, NextDoesNotFit, is_full}

-- pushing no record changes nothing
with-none : (s : State) → with_records InAnswer [] s ≡ s
with-none s = λ i. record s { answers = append-nil s.answers i }

-- a record is pushed after others
with-more : (xs : List RecordItem) (x : RecordItem) (s : State) → with_record InAnswer x (with_records InAnswer xs s) ≡ with_records InAnswer (xs ++ x ∷ []) s
with-more xs x s = λ i. record s { answers = append_assoc s.answers xs (x ∷ []) i }

-- An error that isn't of a full message is that of memory.
pub not-full : (e : PushError) → is_full e ≡ false → e ≡ OutOfMemory
not-full ShortBuf is = cc
not-full LimitExceeded is = cc
not-full CountOverflow is = cc
not-full OutOfMemory is = refl

-- what a push of the record `x` returns on a builder
abbrev pub Returns : Option ℕ → Bool → Rule → RecordItem → Built → Result (Unit {0}) PushError → Type 0
Returns capacity grows rule x old result = InEach InAnswer rule old (λ t. PushReturns capacity grows t.limit (size_after rule (with_record InAnswer x) t) (length t.answers) result)

module _ (capacity : Option ℕ) (grows : Bool) (rule : Rule) (s : State) where
  -- At first no record is pushed.
  pub filling-begins : (xs : List RecordItem) (now : Built) → Represents InAnswer rule s now → Filling capacity rule s xs xs now
  filling-begins xs now h = record {
    pushed = [];
    all = refl;
    fits = λ fits. subst (MessageFits capacity rule) (sym (with-none s)) fits;
    represents = subst (λ (t : State). Represents InAnswer rule t now) (sym (with-none s)) h;
  }

  -- One more is pushed.
  pub filling-goes : (all left less : List RecordItem) (x : RecordItem) (old new : Built) → left ≡ x ∷ less → Returns capacity grows rule x old (Ok tt)
      → MovesState InAnswer InAnswer rule (with_record InAnswer x) old new → Filling capacity rule s all left old → Filling capacity rule s all less new
  filling-goes all left less x old new is returns moves h =
      let more = with-more h.pushed x s in
      let pushed = returns (with_records InAnswer h.pushed s) h.represents in
      record {
        pushed = h.pushed ++ x ∷ [];
        all = h.all ∙ ap (λ (ys : List RecordItem). h.pushed ++ ys) is ∙ sym (append_assoc h.pushed (x ∷ []) less);
        fits = λ _. subst (MessageFits capacity rule) more (pushed.0, pushed.1);
        represents = subst (λ (t : State). Represents InAnswer rule t new) more (moves (with_records InAnswer h.pushed s) h.represents);
      }

  -- All are pushed.
  pub filling-ends : (all left : List RecordItem) (now : Built) → left ≡ [] → Filling capacity rule s all left now → Fills capacity rule s all left now
  filling-ends all left now is h = record { filling = h; next = subst (NextDoesNotFit capacity rule (with_records InAnswer h.pushed s)) (sym is) tt }

  -- a push that fails as the message is full
  too-much : (limit n count : ℕ) (e : PushError) → is_full e ≡ true → PushReturns capacity grows limit n count (Err e) → IsTooMuch capacity limit n count
  too-much limit n count ShortBuf is h = inl h
  too-much limit n count LimitExceeded is h = inr (inl h.1)
  too-much limit n count CountOverflow is h = inr (inr h.2)
  too-much limit n count OutOfMemory is h = absurd (cc is)

  -- The next one doesn't fit.
  pub filling-stops : (all left less : List RecordItem) (x : RecordItem) (e : PushError) (old new : Built) → left ≡ x ∷ less → is_full e ≡ true → Returns capacity grows rule x old (Err e)
      → new ≡ old → Filling capacity rule s all left old → Fills capacity rule s all left new
  filling-stops all left less x e old new is full returns same h = record {
    filling = record { pushed = h.pushed; all = h.all; fits = h.fits; represents = subst (Represents InAnswer rule (with_records InAnswer h.pushed s)) (sym same) h.represents };
    next = subst (NextDoesNotFit capacity rule (with_records InAnswer h.pushed s)) (sym is) (too-much _ _ _ e full (returns (with_records InAnswer h.pushed s) h.represents));
  }
