-- At each offset the encoding of a name has exactly one end, or skipping fails with exactly one fault.
use Rattle.std.proofs.Common.{◌≡◌, ℕ, zero, suc, ◌+◌, ◌-◌, ◌<◌, ◌≤◌, ◌⊎◌, inl, inr, List, length, arith, sym, refl, subst}
use Rattle.std.specs.Prelude.{Result, Ok, Err}
use Rattle.std.proofs.lemmas.Bool.Decides.{leb_tells}
use Rattle.dns_octets.specs.declared.error.TheConstants.FormError.{LONG_NAME}
use Rattle.dns_name.specs.Names.{Fault, Labels, name_size, max_size, head_at, NameAt, Faulty, NameContinues, SkipFaulty}
use Rattle.dns_name.specs.Names.Fault.{ShortInput, Form}
use Rattle.dns_name.specs.Names.SkipFaulty.{head, long, cut, label}
use Rattle.dns_name.specs.declared.head.Head.{Head}
use Rattle.dns_name.specs.declared.head.Head.TheVariants.{Root, Label, Pointer}
use Rattle.dns_name.specs.Unique.{name_size-label_at}
use Rattle.dns_name.proofs.theory.HeadLemmas.{root_within, pointer_within}

module _ (b : List ℕ) where
  end_root : {p s q : ℕ} → NameContinues b p s q → head_at b p ≡ Ok Root → q ≡ p + 1
  end_root (NameContinues.root h) e = refl
  end_root (NameContinues.pointer h) e = cc
  end_root (NameContinues.label h small fits x) e = cc

  end_pointer : {p s q t : ℕ} → NameContinues b p s q → head_at b p ≡ Ok (Pointer t) → q ≡ p + 2
  end_pointer (NameContinues.root h) e = cc
  end_pointer (NameContinues.pointer h) e = refl
  end_pointer (NameContinues.label h small fits x) e = cc

  -- The walk continues after a label that is short enough and complete.
  abbrev After : ℕ → ℕ → ℕ → ℕ → Type 0
  After p s n q = (s + n + 1 ≤ max_size) × (p + 1 + n ≤ length b) × NameContinues b (p + 1 + n) (s + n + 1) q

  end_label : {p s q n : ℕ} → NameContinues b p s q → head_at b p ≡ Ok (Label n) → After p s n q
  end_label (NameContinues.root h) e = cc
  end_label (NameContinues.pointer h) e = cc
  end_label {p = p} {s = s} {q = q} (NameContinues.label {n = k} h small fits x) e =
      let P : ℕ → Type 0 = λ n. After p s n q in subst P (cc) (small, fits, x)

  no_end : {p s q : ℕ} {f : Fault} → NameContinues b p s q → head_at b p ≡ Err f → ⊥
  no_end (NameContinues.root h) e = cc
  no_end (NameContinues.pointer h) e = cc
  no_end (NameContinues.label h small fits x) e = cc

  -- There is at most one end.
  pub one_end : {p s q r : ℕ} → NameContinues b p s q → NameContinues b p s r → q ≡ r
  one_end (NameContinues.root h) y = sym (end_root y h)
  one_end (NameContinues.pointer h) y = sym (end_pointer y h)
  one_end (NameContinues.label h small fits x) y = one_end x (end_label y h).2

  -- If skipping fails, reading fails with the same fault.
  pub skip_fault : {p s : ℕ} {f : Fault} → SkipFaulty b p s f → Faulty b p s f
  skip_fault (head h) = Faulty.head h
  skip_fault (long h big) = Faulty.long h big
  skip_fault (cut h small short) = Faulty.cut h small short
  skip_fault (label h small fits x) = Faulty.label h small fits (skip_fault x)

  -- There is never both an end and a fault.
  pub end_or_fault : {p s q : ℕ} {f : Fault} → NameContinues b p s q → SkipFaulty b p s f → ⊥
  end_or_fault w (head h) = no_end w h
  end_or_fault w (long h big) = let x = end_label w h in absurd (omega (arith, x.0))
  end_or_fault w (cut h small short) = let x = end_label w h in absurd (omega (arith, x.1))
  end_or_fault w (label h small fits x) = end_or_fault (end_label w h).2 x

  -- There is an end or a fault, after labels of size s.
  abbrev EndOrFault : ℕ → ℕ → Type 0
  EndOrFault p s = ((q : ℕ) × NameContinues b p s q) ⊎ ((f : Fault) × SkipFaulty b p s f)

  after : (p s n : ℕ) → head_at b p ≡ Ok (Label n) → s + n + 1 ≤ max_size → p + 1 + n ≤ length b → EndOrFault (p + 1 + n) (s + n + 1) → EndOrFault p s
  after p s n e small fits (inl a) = inl (a.0, NameContinues.label e small fits a.1)
  after p s n e small fits (inr a) = inr (a.0, label e small fits a.1)

  go : (p s : ℕ) → ((p' s' : ℕ) → s < s' → s' ≤ max_size → EndOrFault p' s') → (r : Result Head Fault) → head_at b p ≡ r → EndOrFault p s
  go p s rec (Err f) e = inr (f, head e)
  go p s rec (Ok Root) e = inl (p + 1, NameContinues.root e)
  go p s rec (Ok (Label n)) e =
      elim (leb_tells (s + n + 1) max_size) [
        | inl w ↦ elim (leb_tells (p + 1 + n) (length b)) [
          | inl v ↦ after p s n e w.1 v.1 (rec (p + 1 + n) (s + n + 1) (omega arith) w.1)
          | inr v ↦ inr (ShortInput, cut e w.1 (omega (arith, v.1)))
        ]
        | inr w ↦ inr (Form LONG_NAME, long e (omega (arith, w.1)))
      ]
  go p s rec (Ok (Pointer t)) e = inl (p + 2, NameContinues.pointer e)

  answer : (k p s : ℕ) → 255 - s < k → EndOrFault p s
  answer zero p s h = absurd (omega arith)
  answer (suc k) p s h = go p s (λ p' s' more small. answer k p' s' (omega arith)) (head_at b p) refl

  -- At each offset the encoding of a name has an end, or skipping it fails with a fault.
  pub end_or_skip_fault : (p : ℕ) → EndOrFault p 0
  end_or_skip_fault p = answer 256 p 0 (omega arith)

-- An encoding ends at or after its offset.
pub ends_after : {b : List ℕ} {p s q : ℕ} → NameContinues b p s q → p ≤ q
ends_after (NameContinues.root h) = omega arith
ends_after (NameContinues.pointer h) = omega arith
ends_after (NameContinues.label h small fits x) = let l = ends_after x in omega arith

-- An encoding ends within the octets.
pub ends_in_octets : {b : List ℕ} {p s q : ℕ} → NameContinues b p s q → q ≤ length b
ends_in_octets {b = b} (NameContinues.root {p = p} h) = let l = root_within b p h in omega arith
ends_in_octets {b = b} (NameContinues.pointer {p = p} {t = t} h) = let l = pointer_within b p t h in omega arith
ends_in_octets (NameContinues.label h small fits x) = ends_in_octets x

-- The encoding of a name has an end.
pub encoded_end : {b : List ℕ} {p : ℕ} {name : Labels} (s : ℕ) → NameAt b p name → s + name_size name ≤ max_size → (q : ℕ) × NameContinues b p s q
encoded_end s (NameAt.root {p = p} h) small = (p + 1, NameContinues.root h)
encoded_end {b = b} s (NameAt.label {p = p} {n = n} {name = name} h w x z) small =
    let e = name_size-label_at b p n name w in
    let r = encoded_end (s + n + 1) x (omega (arith, e)) in
    (r.0, NameContinues.label h (omega (arith, e)) w r.1)
encoded_end s (NameAt.pointer {p = p} h back x) small = (p + 2, NameContinues.pointer h)
