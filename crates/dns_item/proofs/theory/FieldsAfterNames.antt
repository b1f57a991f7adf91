-- At each offset a name and the fields after it are read, or there is one fault.
use Rattle.std.proofs.Common.{◌≡◌, ℕ, ◌+◌, ◌<◌, ◌≤◌, ◌⊎◌, inl, inr, List, length, arith, ap, sym, ◌∙◌, refl}
use Rattle.std.proofs.lemmas.Bool.Decides.{leb_tells}
use Rattle.dns_name.specs.Names.{Labels, Fault, NameAt, NameEndsAt, ReadsOrFaults, EndsOrFaults}
use Rattle.dns_name.specs.Names.Fault.{ShortInput}
use Rattle.dns_name.proofs.theory.Names.{name_or_fault, not_both, one_fault, end_or_skip_fault, end_not_both, one_end, names_end, skip_faults}
use Rattle.dns_item.specs.AfterNames.{SkipsFields, FieldsFaultAt, FieldsSkipFaultAt}
use Rattle.dns_item.specs.AfterNames.FieldsFaultAt.{name as name_fault, short as short_fields}
use Rattle.dns_item.specs.AfterNames.FieldsSkipFaultAt.{name as name_skip_fault, short as unended_fields}

-- either n octets are there, or they aren't
pub long_or_short : (b : List ℕ) (n : ℕ) → (n ≤ length b) ⊎ (length b < n)
long_or_short b n = elim (leb_tells n (length b)) [ inl l ↦ inl l.1 | inr l ↦ inr (omega (arith, l.1)) ]

module _ (b : List ℕ) (size : ℕ → ℕ) where
  -- the end of the name decides the end of the fields
  pub one_name_end : {p q r : ℕ} (h : SkipsFields b size p q) (k : SkipsFields b size p r) → h.name_end ≡ k.name_end
  one_name_end h k = one_end b _ _ _ h.name_ends k.name_ends

  -- the fields after a name have at most one end
  pub one_fields_end : {p q r : ℕ} → SkipsFields b size p q → SkipsFields b size p r → q ≡ r
  one_fields_end h k = h.end ∙ ap (λ n. n + size n) (one_name_end h k) ∙ sym k.end

  -- the fields after a name that ends at r, if they are within the octets
  abbrev pub fields_from : {p r : ℕ} → NameEndsAt b p r → r + size r ≤ length b → SkipsFields b size p (r + size r)
  fields_from {r = r} w l = record { name_end = r; name_ends = w; end = refl; within = l }

  module _ (Lacks : ℕ → Type 0) (long : (r : ℕ) → (r + size r ≤ length b) ⊎ Lacks r) (lacks : (r : ℕ) → Lacks r → length b < r + size r) where
    -- the fields after a name can't be all there and lack octets
    lacking : (p q r : ℕ) → SkipsFields b size p q → NameEndsAt b p r → Lacks r → ⊥
    lacking p q r h w l =
        let e : h.name_end + size h.name_end ≡ r + size r = ap (λ n. n + size n) (one_end b p _ _ h.name_ends w) in
        let a = h.end in let m = h.within in omega (arith, lacks r l)

    only_end : (p q : ℕ) (f : Fault) → SkipsFields b size p q → FieldsSkipFaultAt b Lacks p f → ⊥
    only_end p q f h (name_skip_fault g) = end_not_both b p h.name_end f h.name_ends g
    only_end p q f h (unended_fields {r = r} w l) = lacking p q r h w l

    one_skip_fault : (p : ℕ) (f g : Fault) → FieldsSkipFaultAt b Lacks p f → FieldsSkipFaultAt b Lacks p g → f ≡ g
    one_skip_fault p f g (name_skip_fault h) (name_skip_fault k) = one_fault b p f g (skip_faults b p f h) (skip_faults b p g k)
    one_skip_fault p f g (name_skip_fault h) (unended_fields w l) = absurd (end_not_both b p _ f w h)
    one_skip_fault p f g (unended_fields w l) (name_skip_fault k) = absurd (end_not_both b p _ g w k)
    one_skip_fault p f g (unended_fields w l) (unended_fields v m) = refl

    -- at each offset a name and the fields after it have exactly one end, or skipping them has exactly one fault
    pub ends_or_faults : EndsOrFaults (SkipsFields b size) (FieldsSkipFaultAt b Lacks)
    ends_or_faults = record {
      some = λ p. elim (end_or_skip_fault b p) [
        | inl w ↦ elim (long w.0) [ inl l ↦ inl (w.0 + size w.0, fields_from w.1 l) | inr l ↦ inr (ShortInput, unended_fields w.1 l) ]
        | inr f ↦ inr (f.0, name_skip_fault f.1)
      ];
      one = λ p q r h k. one_fields_end h k;
      not_both = only_end;
      one_fault = one_skip_fault;
    }

    one_read_fault : (p : ℕ) (f g : Fault) → FieldsFaultAt b Lacks p f → FieldsFaultAt b Lacks p g → f ≡ g
    one_read_fault p f g (name_fault h) (name_fault k) = one_fault b p f g h k
    one_read_fault p f g (name_fault h) (short_fields s w l) = absurd (not_both b p _ f s h)
    one_read_fault p f g (short_fields s w l) (name_fault k) = absurd (not_both b p _ g s k)
    one_read_fault p f g (short_fields s w l) (short_fields t v m) = refl

    -- entries that are a name and the fields after it
    module _ {X : Type 0} (Reads : ℕ → ℕ → X → Type 0) (labels : X → Labels)
        (skips : (p q : ℕ) (x : X) → Reads p q x → SkipsFields b size p q × NameAt b p (labels x))
        (read : (p r : ℕ) (name : Labels) → NameAt b p name → NameEndsAt b p r → r + size r ≤ length b → (x : X) × Reads p (r + size r) x)
        (one : (p q r : ℕ) (x y : X) → Reads p q x → Reads p r y → x ≡ y)
      where
        only_read : (p q : ℕ) (x : X) (f : Fault) → Reads p q x → FieldsFaultAt b Lacks p f → ⊥
        only_read p q x f h (name_fault g) = not_both b p (labels x) f (skips p q x h).1 g
        only_read p q x f h (short_fields {r = r} s w l) = lacking p q r (skips p q x h).0 w l

        -- at each offset exactly one entry is read, or there is exactly one fault
        pub reads_or_faults : ReadsOrFaults Reads (FieldsFaultAt b Lacks)
        reads_or_faults = record {
          some = λ p. elim (name_or_fault b p) [
            | inl h ↦
                let w = names_end b p h.0 h.1 in
                elim (long w.0) [ inl l ↦ let r = read p w.0 h.0 h.1 w.1 l in inl (w.0 + size w.0, r.0, r.1) | inr l ↦ inr (ShortInput, short_fields h.1 w.1 l) ]
            | inr f ↦ inr (f.0, name_fault f.1)
          ];
          one = λ p q r x y h k. (one_fields_end (skips p q x h).0 (skips p r y k).0, one p q r x y h k);
          not_both = only_read;
          one_fault = one_read_fault;
        }
