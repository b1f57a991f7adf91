-- Text that a buffer holds.
use Rattle.std.proofs.Common.{◌≡◌, ◌∙◌, ℕ, ◌+◌, ◌-◌, ◌^◌, ◌<◌, ◌≤◌, min, List, [], ◌∷◌, ◌++◌, length, take, set, ap, subst, refl, arith, length-append}
use Rattle.std.proofs.lemmas.List.{take_more_set}
use Rattle.dnsm_status.specs.CallerBuffers.{Holds}

-- a buffer that holds a text holds an equal text
pub holds_as : (out text same : List ℕ) (end : ℕ) → text ≡ same → Holds out text end → Holds out same end
holds_as out text same end is h = subst (λ (t : List ℕ). Holds out t end) is h

-- each buffer holds the empty text
pub empty_held : (out : List ℕ) → Holds out [] 0
empty_held out = record { counted = refl; held = λ h. refl }

-- nothing is written if the buffer is too short for what is appended
pub too_long : (out text more : List ℕ) (end after : ℕ) → length out < end + length more → after ≡ min (end + length more) (2 ^ 64 - 1) → Holds out text end → Holds out (text ++ more) after
too_long out text more end after past is h =
    let both = length-append text more in
    let counted = h.counted in
    record { counted = omega (arith, both); held = λ fits. absurd (omega (arith, both)) }

-- what is appended is written after the text
pub written : (old new text more : List ℕ) (end after : ℕ) → length old < 2 ^ 64 → length new ≡ length old → after ≡ end + length more → after ≤ length old → take after new ≡ take end old ++ more
    → Holds old text end → Holds new (text ++ more) after
written old new text more end after wide same is within put h =
    let both = length-append text more in
    let counted = h.counted in
    record {
      counted = omega (arith, both);
      held = λ fits.
          let e : end ≡ length text = omega (arith, both) in
          let all : length (text ++ more) ≡ after = omega (arith, both) in
          let front : take end old ≡ text = ap (λ (n : ℕ). take n old) e ∙ h.held (omega (arith, both)) in
          ap (λ (n : ℕ). take n new) all ∙ put ∙ ap (λ (t : List ℕ). t ++ more) front;
    }

-- a text that the buffer has room for is held
pub all_held : (out text : List ℕ) (end : ℕ) → length out < 2 ^ 64 → end < 2 ^ 64 - 1 → end ≤ length out → Holds out text end → (end ≡ length text) × (take end out ≡ text)
all_held out text end wide small within h =
    let counted = h.counted in
    let e : end ≡ length text = omega arith in
    (e, ap (λ (n : ℕ). take n out) e ∙ h.held (omega arith))

-- a text is terminated by a zero octet
pub terminated : (out text : List ℕ) (end : ℕ) → length out < 2 ^ 64 → end < length out → Holds out text end → take (end + 1) (set out end 0) ≡ text ++ 0 ∷ []
terminated out text end wide within h =
    take_more_set out end 0 within ∙ ap (λ (t : List ℕ). t ++ 0 ∷ []) (all_held out text end wide (omega arith) (omega arith) h).1
