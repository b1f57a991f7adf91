-- A beginning of the records that is longer than a message's doesn't fit.
use Rattle.std.proofs.Common.{◌≡◌, ◌∙◌, ◌<◌, ◌≤◌, ◌+◌, ℕ, Bool, Option, Some, None, List, [], ◌∷◌, ◌++◌, append_assoc, length, length-append, sym, refl, subst, arith, inl, inr}
use Rattle.std.proofs.lemmas.Bool.Decides.{leb_tells}
use Rattle.dns_wire.specs.Encoders.{Rule}
use Rattle.dns_wire.specs.Targets.{Exceeds, Fits}
use Rattle.dns_item.specs.Items.{RecordItem}
use Rattle.dns_build.specs.BuilderStates.{Built, size_after}
use Rattle.dns_build.specs.State.{State}
use Rattle.dns_build.proofs.theory.MessageSizes.{longer_with_answers}
use Rattle.dns_transfer_writer.specs.Filling.{IsTooMuch, NextDoesNotFit}
use Rattle.dns_transfer_writer.specs.Longest.{CanHold}
use Rattle.dns_transfer_writer.specs.Messages.{Holds, message_state}

-- a list of which `taken` is a beginning, and `ys` a longer one: the element after `taken`
pub record Beyond {X : Type 0} (taken ys left : List X) : Type 0 where
  pub next : X
  pub others : List X
  pub later : List X
  pub is_left : left ≡ next ∷ later
  pub is_longer : ys ≡ taken ++ next ∷ others

beyond : {X : Type 0} (taken ys left rest : List X) → taken ++ left ≡ ys ++ rest → length taken < length ys → Beyond taken ys left
beyond [] [] left rest e less = absurd (omega (arith, less))
beyond [] (y ∷ ys) left rest e less = record { next = y; others = ys; later = ys ++ rest; is_left = e; is_longer = refl }
beyond (x ∷ taken) [] left rest e less = absurd (omega (arith, less))
beyond (x ∷ taken) (y ∷ ys) left rest e less =
    let first : x ≡ y = cc e in
    let tails : taken ++ left ≡ ys ++ rest = cc e in
    let more = beyond taken ys left rest tails (omega (arith, less)) in
    record { next = more.next; others = more.others; later = more.later; is_left = more.is_left; is_longer = λ i. sym first i ∷ more.is_longer i }

-- what exceeds a capacity doesn't fit, and nothing longer does
exceeds_longer : (capacity : Option ℕ) (n m : ℕ) → Exceeds capacity n → n ≤ m → Fits capacity m → ⊥
exceeds_longer None n m exceeds more fits = absurd exceeds
exceeds_longer (Some capacity) n m exceeds more fits = omega (arith, exceeds, more, fits)

module _ (capacity : Option ℕ) (rule : Rule) (begun : Bool) (limit : ℕ) (query : List ℕ) where
  -- the octets of the message with these records
  abbrev size : List RecordItem → ℕ
  size xs = size_after rule (λ (s : State). s) (message_state begun limit query xs)

  -- if one more record is too much, then so are several more
  too_much_longer : (taken others : List RecordItem) (next : RecordItem) → IsTooMuch capacity limit (size (taken ++ next ∷ [])) (length taken)
      → CanHold capacity rule begun limit query (taken ++ next ∷ others) → ⊥
  too_much_longer taken others next too_much can =
      let assoc : (taken ++ next ∷ []) ++ others ≡ taken ++ next ∷ others = append_assoc taken (next ∷ []) others in
      let grows : size (taken ++ next ∷ []) ≤ size (taken ++ next ∷ others) =
      subst (λ (ys : List RecordItem). size (taken ++ next ∷ []) ≤ size ys) assoc (longer_with_answers rule (message_state begun limit query []) (taken ++ next ∷ []) others) in
      let count : length (taken ++ next ∷ others) ≡ length taken + length (next ∷ others) = length-append taken (next ∷ others) in
      let few = can.few in
      elim too_much [
        | inl exceeds ↦ exceeds_longer capacity (size (taken ++ next ∷ [])) (size (taken ++ next ∷ others)) exceeds grows can.fits.0
        | inr (inl over) ↦ let within = can.fits.1 in omega (arith, over, grows, within)
        | inr (inr full) ↦ omega (arith, full, count, few)
      ]

  -- No message can have a longer beginning.
  pub longest : (xs left : List RecordItem) (b : Built) (holds : Holds capacity rule begun limit query xs left b) (ys rest : List RecordItem) → xs ≡ ys ++ rest
      → CanHold capacity rule begun limit query ys → length ys ≤ length (holds.first ∷ holds.others)
  longest xs left b holds ys rest e can =
      let taken = holds.first ∷ holds.others in
      elim (leb_tells (length ys) (length taken)) [
        | inl within ↦ within.1
        | inr less ↦
            let more = beyond taken ys left rest (sym holds.all ∙ e) less.1 in
            let next = subst (NextDoesNotFit capacity rule (message_state begun limit query taken)) more.is_left holds.next in
            absurd (too_much_longer taken more.others more.next next (subst (CanHold capacity rule begun limit query) more.is_longer can))
      ]
