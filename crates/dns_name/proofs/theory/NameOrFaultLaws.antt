-- At each offset exactly one name is encoded, or reading fails with exactly one fault.
use Rattle.std.proofs.Common.{◌≡◌, ℕ, zero, suc, ◌+◌, ◌-◌, ◌*◌, ◌<◌, ◌≤◌, ◌⊎◌, inl, inr, List, [], ◌∷◌, length, arith, ap, sym, ◌∙◌, refl, subst}
use Rattle.std.specs.Prelude.{Result, Ok, Err}
use Rattle.std.proofs.lemmas.Bool.Decides.{leb_tells}
use Rattle.dns_octets.specs.declared.error.TheConstants.FormError.{BAD_POINTER, LONG_NAME}
use Rattle.dns_name.specs.Names.{Fault, Labels, name_size, max_size, head_at, NameAt, Faulty, label_at}
use Rattle.dns_name.specs.Names.Fault.{ShortInput, Form}
use Rattle.dns_name.specs.Names.Faulty.{head, long, cut, ahead, label, pointer}
use Rattle.dns_name.specs.declared.head.Head.{Head}
use Rattle.dns_name.specs.declared.head.Head.TheVariants.{Root, Label, Pointer}
use Rattle.dns_name.specs.Unique.{name_size-label_at, label_head}
use Rattle.dns_name.proofs.theory.HeadLemmas.{at_label, at_pointer}

module _ (b : List ℕ) where
  no_head : {p : ℕ} {name : Labels} {f : Fault} → NameAt b p name → head_at b p ≡ Err f → ⊥
  no_head (NameAt.root h) e = cc
  no_head (NameAt.label h w x z) e = cc
  no_head (NameAt.pointer h w x) e = cc

  -- If a name is encoded and short enough, reading doesn't fail.
  pub not_both : {p s : ℕ} {f : Fault} → Faulty b p s f → (name : Labels) → NameAt b p name → s + name_size name ≤ max_size → ⊥
  not_both (head h) name x small = no_head x h
  not_both (long {p = p} {n = n} h big) name x small =
      let w = at_label b x h in
      let e = ap name_size w.whole ∙ name_size-label_at b p n w.others w.fits in omega (arith, e)
  not_both (cut h small' short) name x small = let w = at_label b x h in omega (arith, w.fits)
  not_both (ahead h far) name x small = let w = at_pointer b x h in omega (arith, w.0)
  not_both (label {p = p} {n = n} h small' fits f) name x small =
      let w = at_label b x h in
      let e = ap name_size w.whole ∙ name_size-label_at b p n w.others w.fits in
      not_both f w.others w.is_encoded (omega (arith, e))
  not_both (pointer h back f) name x small = not_both f name (at_pointer b x h).1 small

  -- How a fault arises at a label: the name is too long, the label runs past the end, or the fault is after it.
  abbrev AtLabel : ℕ → ℕ → ℕ → Fault → Type 0
  AtLabel p s n f = ((max_size < s + n + 1) × (f ≡ Form LONG_NAME))
      ⊎ (((s + n + 1 ≤ max_size) × (length b < p + 1 + n) × (f ≡ ShortInput))
      ⊎ ((s + n + 1 ≤ max_size) × (p + 1 + n ≤ length b) × Faulty b (p + 1 + n) (s + n + 1) f))

  fault_label : {p s n : ℕ} {f : Fault} → Faulty b p s f → head_at b p ≡ Ok (Label n) → AtLabel p s n f
  fault_label (head h) e = cc
  fault_label {p = p} {s = s} (long {n = k} h big) e = let P : ℕ → Type 0 = λ n. AtLabel p s n (Form LONG_NAME) in subst P (cc) (inl (big, refl))
  fault_label {p = p} {s = s} (cut {n = k} h small short) e = let P : ℕ → Type 0 = λ n. AtLabel p s n ShortInput in subst P (cc) (inr (inl (small, short, refl)))
  fault_label (ahead h far) e = cc
  fault_label {p = p} {s = s} (label {n = k} {f = f} h small fits x) e = let P : ℕ → Type 0 = λ n. AtLabel p s n f in subst P (cc) (inr (inr (small, fits, x)))
  fault_label (pointer h back f) e = cc

  abbrev AtPointer : ℕ → ℕ → ℕ → Fault → Type 0
  AtPointer p s t f = ((p ≤ t) × (f ≡ Form BAD_POINTER)) ⊎ ((t < p) × Faulty b t s f)

  fault_pointer : {p s t : ℕ} {f : Fault} → Faulty b p s f → head_at b p ≡ Ok (Pointer t) → AtPointer p s t f
  fault_pointer (head h) e = cc
  fault_pointer (long h big) e = cc
  fault_pointer (cut h small short) e = cc
  fault_pointer {p = p} {s = s} (ahead {t = k} h far) e = let P : ℕ → Type 0 = λ t. AtPointer p s t (Form BAD_POINTER) in subst P (cc) (inl (far, refl))
  fault_pointer (label h small fits x) e = cc
  fault_pointer {p = p} {s = s} (pointer {t = k} {f = f} h back x) e = let P : ℕ → Type 0 = λ t. AtPointer p s t f in subst P (cc) (inr (back, x))

  fault_head : {p s : ℕ} {f g : Fault} → Faulty b p s f → head_at b p ≡ Err g → f ≡ g
  fault_head (head h) e = cc
  fault_head (long h big) e = cc
  fault_head (cut h small short) e = cc
  fault_head (ahead h far) e = cc
  fault_head (label h small fits x) e = cc
  fault_head (pointer h back x) e = cc

  -- Reading fails with at most one fault.
  pub one_fault : {p s : ℕ} {f g : Fault} → Faulty b p s f → Faulty b p s g → f ≡ g
  one_fault (head h) y = sym (fault_head y h)
  one_fault (long h big) y = elim (fault_label y h) [ inl l ↦ sym l.1 | inr r ↦ elim r [ inl l ↦ absurd (omega (arith, l.0)) | inr l ↦ absurd (omega (arith, l.0)) ] ]
  one_fault (cut h small short) y = elim (fault_label y h) [ inl l ↦ absurd (omega (arith, l.0)) | inr r ↦ elim r [ inl l ↦ sym l.2 | inr l ↦ absurd (omega (arith, l.1)) ] ]
  one_fault (ahead h far) y = elim (fault_pointer y h) [ inl l ↦ sym l.1 | inr r ↦ absurd (omega (arith, r.0)) ]
  one_fault (label h small fits x) y = elim (fault_label y h) [ inl l ↦ absurd (omega (arith, l.0)) | inr r ↦ elim r [ inl l ↦ absurd (omega (arith, l.1)) | inr l ↦ one_fault x l.2 ] ]
  one_fault (pointer h back x) y = elim (fault_pointer y h) [ inl l ↦ absurd (omega (arith, l.0)) | inr r ↦ one_fault x r.1 ]

  -- A name that is short enough is encoded at offset p, or reading fails.
  abbrev Answer : ℕ → ℕ → Type 0
  Answer p s = ((name : Labels) × NameAt b p name × (s + name_size name ≤ max_size)) ⊎ ((f : Fault) × Faulty b p s f)

  -- A bound on how far a walk can still go. Each step lowers it.
  abbrev left : ℕ → ℕ → ℕ
  left p s = (255 - s) * (length b + 1) + p

  less_after : (p s n : ℕ) → 0 < n → s + n + 1 ≤ max_size → p + 1 + n ≤ length b → left (p + 1 + n) (s + n + 1) < left p s
  less_after p s n some small fits = grind arith

  after : (p s n : ℕ) → head_at b p ≡ Ok (Label n) → s + n + 1 ≤ max_size → p + 1 + n ≤ length b → Answer (p + 1 + n) (s + n + 1) → Answer p s
  after p s n e small fits (inl a) =
      inl (label_at b p n ∷ a.0, NameAt.label e fits a.1 (omega (arith, a.2)), (let w = name_size-label_at b p n a.0 fits in omega (arith, w, a.2)))
  after p s n e small fits (inr a) = inr (a.0, label e small fits a.1)

  at : (p s t : ℕ) → head_at b p ≡ Ok (Pointer t) → t < p → Answer t s → Answer p s
  at p s t e back (inl a) = inl (a.0, NameAt.pointer e back a.1, a.2)
  at p s t e back (inr a) = inr (a.0, pointer e back a.1)

  go : (p s : ℕ) → s ≤ max_size → ((p' s' : ℕ) → s' ≤ max_size → left p' s' < left p s → Answer p' s') → (r : Result Head Fault) → head_at b p ≡ r → Answer p s
  go p s small rec (Err f) e = inr (f, head e)
  go p s small rec (Ok Root) e = inl ([], NameAt.root e, omega arith)
  go p s small rec (Ok (Label n)) e =
      elim (leb_tells (s + n + 1) max_size) [
        | inl w ↦ elim (leb_tells (p + 1 + n) (length b)) [
          | inl v ↦ after p s n e w.1 v.1 (rec (p + 1 + n) (s + n + 1) w.1 (less_after p s n (label_head b p n e).some w.1 v.1))
          | inr v ↦ inr (ShortInput, cut e w.1 (omega (arith, v.1)))
        ]
        | inr w ↦ inr (Form LONG_NAME, long e (omega (arith, w.1)))
      ]
  go p s small rec (Ok (Pointer t)) e =
      elim (leb_tells p t) [ inl w ↦ inr (Form BAD_POINTER, ahead e w.1) | inr w ↦ at p s t e (omega (arith, w.1)) (rec t s small (omega (arith, w.1))) ]

  answer : (k p s : ℕ) → s ≤ max_size → left p s < k → Answer p s
  answer zero p s small h = absurd (omega arith)
  answer (suc k) p s small h = go p s small (λ p' s' small' less. answer k p' s' small' (omega arith)) (head_at b p) refl

  -- At each offset a name of at most 255 octets is encoded, or reading fails with a fault.
  pub one_answer : (p : ℕ) → ((name : Labels) × NameAt b p name × (0 + name_size name ≤ max_size)) ⊎ ((f : Fault) × Faulty b p 0 f)
  one_answer p = answer (left p 0 + 1) p 0 (omega arith) (omega arith)
