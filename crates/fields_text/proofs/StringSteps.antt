-- The steps of reading a string.
use Rattle.std.proofs.Common.{◌≡◌, ◌∙◌, ◌<◌, ◌⊎◌, inl, inr, ℕ, ◌+◌, List, [], ◌∷◌, ◌++◌, Some, None, length, refl, sym, ap, subst, arith, append_assoc, append-nil, length-append}
use Rattle.fields_text.specs.declared.text_error.TextError.{TextError}
use Rattle.fields_text.specs.declared.text_error.TextError.TheVariants.{BadWord, OutOfMemory}
use Rattle.fields_text.specs.ReadOctets.{IsFailure, TakesMemory}
use Rattle.fields_text.specs.Strings.{SpellsOctets, octet_at}
use Rattle.fields_text.specs.Strings.SpellsOctets.{none, more}
use Rattle.fields_text.proofs.theory.Options.{some_same}

-- the octets read so far, and a text after them, are the whole: what the text spells completes them, and nothing else does
pub record IsRead (whole octets left : List ℕ) : Type 0 where
  pub completes : (others : List ℕ) → SpellsOctets left others → SpellsOctets whole (octets ++ others)
  pub begins : (all : List ℕ) → SpellsOctets whole all → (others : List ℕ) × (all ≡ octets ++ others) × SpellsOctets left others

-- nothing is read
pub nothing_read : (whole : List ℕ) → IsRead whole [] whole
nothing_read whole = record { completes = λ others h. h; begins = λ all h. (all, refl, h) }

-- what a text that begins with an octet spells
first_spelled : (text after all : List ℕ) (octet : ℕ) → octet_at text ≡ Some (octet, after) → SpellsOctets text all
    → (others : List ℕ) × (all ≡ octet ∷ others) × SpellsOctets after others
first_spelled text after all octet e none = absurd (cc e)
first_spelled text after all octet e (more {after = rest} {octets = others} {octet = o} f h) =
    let read : ℕ × List ℕ = (o, rest) in
    let given : ℕ × List ℕ = (octet, after) in
    let pair : read ≡ given = some_same read given (sym f ∙ e) in
    let first : o ≡ octet = ap (λ (p : ℕ × List ℕ). p.0) pair in
    let left : rest ≡ after = ap (λ (p : ℕ × List ℕ). p.1) pair in
    (others, ap (λ (x : ℕ). let xs : List ℕ = x ∷ others in xs) first, subst (λ (text : List ℕ). SpellsOctets text others) left h)

-- one octet more is read
pub octet_read : (whole octets left after : List ℕ) (octet : ℕ) → IsRead whole octets left → octet_at left ≡ Some (octet, after)
    → IsRead whole (octets ++ octet ∷ []) after
octet_read whole octets left after octet r e = record {
  completes = λ others h. rw (append_assoc octets (octet ∷ []) others) (r.completes (octet ∷ others) (more e h));
  begins = λ all h.
      let b = r.begins all h in
      let f = first_spelled left after b.0 octet e b.2 in
      (f.0, b.1 ∙ ap (λ xs. octets ++ xs) f.1 ∙ sym (append_assoc octets (octet ∷ []) f.0), f.2);
}

-- an allocation for one octet more fails: the error is that of the text after it
pub failed_reads : (whole octets left after : List ℕ) (octet : ℕ) (error : TextError) → IsRead whole octets left → octet_at left ≡ Some (octet, after)
    → IsFailure (SpellsOctets after) error → (error ≡ OutOfMemory) ⊎ ((error ≡ BadWord) × ((all : List ℕ) → ¬ SpellsOctets whole all))
failed_reads whole octets left after octet error r e (inl out) = inl out.0
failed_reads whole octets left after octet error r e (inr bad) = inr (
  bad.0,
  λ all h.
      let b = r.begins all h in
      let f = first_spelled left after b.0 octet e b.2 in
      bad.1 f.0 f.2,
)

-- it is `OutOfMemory` only if the whole text represents octets
pub failed_full : (whole octets left after : List ℕ) (octet : ℕ) (error : TextError) → IsRead whole octets left → octet_at left ≡ Some (octet, after)
    → IsFailure (SpellsOctets after) error → error ≡ OutOfMemory → TakesMemory (SpellsOctets whole)
failed_full whole octets left after octet error r e (inl out) is =
    let others : List ℕ = out.1.0 in
    (octets ++ octet ∷ others, r.completes (octet ∷ others) (more e out.1.1), simp length-append (omega arith))
failed_full whole octets left after octet error r e (inr bad) is = cc (sym bad.0 ∙ is)

-- all is read
pub all_read : (whole octets left : List ℕ) → IsRead whole octets left → length left ≡ 0 → SpellsOctets whole octets
all_read whole octets [] r h = subst (λ (xs : List ℕ). SpellsOctets whole xs) (append-nil octets) (r.completes [] none)
all_read whole octets (x ∷ left) r h = absurd (omega arith)

-- What is read is appended to the octets that were there.
abbrev pub IsAppended : List ℕ → List ℕ → List ℕ → List ℕ → Type 0
IsAppended whole old new left = (octets : List ℕ) × (new ≡ old ++ octets) × IsRead whole octets left

-- Nothing is appended at first.
pub nothing_appended : (whole old : List ℕ) → IsAppended whole old old whole
nothing_appended whole old = ([], sym (append-nil old), nothing_read whole)

module _ (whole old new left after : List ℕ) (octet : ℕ) (before : IsAppended whole old new left) (first : octet_at left ≡ Some (octet, after)) where
  -- One octet more is appended.
  pub octet_appended : (pushed : List ℕ) → pushed ≡ new ++ octet ∷ [] → IsAppended whole old pushed after
  octet_appended pushed is = (
    before.0 ++ octet ∷ [],
    is ∙ ap (λ (xs : List ℕ). xs ++ octet ∷ []) before.1 ∙ append_assoc old before.0 (octet ∷ []),
    octet_read whole before.0 left after octet before.2 first,
  )

  -- If there is no room for it, what the whole text spells doesn't fit.
  pub octet_misfits : (size : ℕ) → length new ≡ size → (all : List ℕ) → SpellsOctets whole all → size < length (old ++ all)
  octet_misfits size full all spelled =
      let b = before.2.begins all spelled in
      let f = first_spelled left after b.0 octet first b.2 in
      let there : length new ≡ length old + length before.0 = ap length before.1 ∙ length-append old before.0 in
      let others : length all ≡ length before.0 + length b.0 = ap length b.1 ∙ length-append before.0 b.0 in
      let more : length b.0 ≡ length (octet ∷ f.0) = ap length f.1 in
      let sum = length-append old all in
      omega (arith, full, there, others, more, sum)

none_spelled : (left others : List ℕ) → octet_at left ≡ None → 0 < length left → SpellsOctets left others → ⊥
none_spelled left others first some none = omega arith
none_spelled left others first some (more e h) = cc (first, e)

-- If the text that is left begins with no octet, the whole text spells nothing.
pub nothing_spelled : (whole old new left : List ℕ) → IsAppended whole old new left → octet_at left ≡ None → 0 < length left → (all : List ℕ) → ¬ SpellsOctets whole all
nothing_spelled whole old new left before first some all spelled =
    let b = before.2.begins all spelled in
    none_spelled left b.0 first some b.2

-- All is appended.
pub all_appended : (whole old new left : List ℕ) → IsAppended whole old new left → length left ≡ 0 → (octets : List ℕ) × SpellsOctets whole octets × (new ≡ old ++ octets)
all_appended whole old new left before empty = (before.0, all_read whole before.0 left before.2 empty, before.1)
