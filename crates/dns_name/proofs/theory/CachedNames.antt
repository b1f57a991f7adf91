-- How a walk over labels and pointers decides which name or fault is at its start.
use Rattle.std.proofs.Common.{◌≡◌, ℕ, ◌+◌, ◌-◌, ◌<◌, ◌≤◌, ◌*◌, ◌/◌, ◌%◌, List, [], ◌∷◌, length, get_or, arith, ap, sym, ◌∙◌, subst, refl, inl, inr}
use Rattle.std.specs.Prelude.{Option, Some, None, Ok, Err, slice_get}
use Rattle.std.proofs.lemmas.Option.{slice_get_past, slice_get-get_or}
use Rattle.std.proofs.lemmas.Nat.{or_comm, or_shifted}
use Rattle.std.specs.Prelude.{bit_or}
use Rattle.std.proofs.lemmas.Bool.Decides.{leb_tells}
use Rattle.dns_octets.specs.declared.error.TheConstants.FormError.{BAD_POINTER, LONG_NAME}
use Rattle.dns_name.specs.Names.{Fault, Labels, name_size, max_size, head_of, head_at, label_at, NameAt, Faulty, FaultAt, NameContinues, LabelsTo}
use Rattle.dns_name.specs.Names.Fault.{ShortInput, Form}
use Rattle.dns_name.specs.CachedNames.{IsCached, row_count, SkipsLabels, Measures, Arrives, LeadsBackTo}
use Rattle.dns_name.specs.Names.LabelsTo.{none, label}
use Rattle.dns_name.specs.Unique.{NameOfSizeAndCount, name_size-label_at, label_head}
use Rattle.dns_name.specs.declared.head.Head.TheVariants.{Root, Label, Pointer}
use Rattle.dns_name.specs.declared.cached_name.CachedName.{CachedName}
use Rattle.dns_name.proofs.theory.HeadLemmas.{pointer_within, pointer_begins}

-- Nothing begins past the end.

past_head : (b : List ℕ) (p : ℕ) → length b ≤ p → head_at b p ≡ Err ShortInput
unfolding head_at
past_head b p h = ap (λ (x : Option ℕ). head_of x (slice_get b (p + 1))) (slice_get_past b p h)

past_fault : (b : List ℕ) {p s : ℕ} {f : Fault} → Faulty b p s f → head_at b p ≡ Err ShortInput → f ≡ ShortInput
past_fault b (Faulty.head h) e = cc
past_fault b (Faulty.long h big) e = cc
past_fault b (Faulty.cut h small short) e = refl
past_fault b (Faulty.ahead h ahead) e = cc
past_fault b (Faulty.label h small fits m) e = cc
past_fault b (Faulty.pointer h back m) e = cc

-- `count` consecutive labels.
abbrev pub RowOf : List ℕ → ℕ → ℕ → ℕ → ℕ → ℕ → Type 0
RowOf b p s q r count = (row : LabelsTo b p s q r) × (row_count row ≡ count)

-- The progress of a walk over consecutive labels, of which k are skipped. It may be past the end; then only a fault can follow.
pub record SkippingLabels (b : List ℕ) (p s q r k : ℕ) : Type 0 where
  pub from : p ≤ q
  pub short : r ≤ max_size
  pub few : s + k ≤ r
  pub faults : (f : Fault) → Faulty b q r f → Faulty b p s f
  pub rows : q ≤ length b → (q' r' : ℕ) (x : LabelsTo b q r q' r') → RowOf b p s q' r' (k + row_count x)

-- A walk that has skipped nothing is where it began.
pub skipping_none : (b : List ℕ) (p s r : ℕ) → s ≤ max_size → r ≡ s → SkippingLabels b p s p r 0
skipping_none b p s r short e =
    let P : ℕ → Type 0 = λ r. SkippingLabels b p s p r 0 in
    subst P (sym e) (record {
      from = omega arith;
      short = short;
      few = omega arith;
      faults = λ f m. m;
      rows = λ h q' r' x. (x, omega arith);
    })

-- The walk continues after a label that is short enough, even if it runs past the end.
pub skipping_label : (b : List ℕ) (p s q r k n q' r' : ℕ) → SkippingLabels b p s q r k → head_at b q ≡ Ok (Label n)
    → q' ≡ q + 1 + n → r' ≡ r + n + 1 → r' ≤ max_size → SkippingLabels b p s q' r' (k + 1)
skipping_label b p s q r k n q' r' l h eq er short =
    let small : r + n + 1 ≤ max_size = omega arith in
    let here : q < length b = (label_head b q n h).within in
    let P : ℕ → Type 0 = λ q'. SkippingLabels b p s q' r' (k + 1) in
    let Q : ℕ → Type 0 = λ r'. SkippingLabels b p s (q + 1 + n) r' (k + 1) in
    subst P (sym eq) (subst Q (sym er) (record {
      from = omega (arith, l.from);
      short = small;
      few = omega (arith, l.few);
      faults = λ f m. elim (leb_tells (q + 1 + n) (length b)) [
        | inl fits ↦ l.faults f (Faulty.label h small fits.1 m)
        | inr cut ↦
            let F : Fault → Type 0 = λ f. Faulty b p s f in
            subst F (sym (past_fault b m (past_head b (q + 1 + n) (omega (arith, cut.1))))) (l.faults ShortInput (Faulty.cut h small cut.1))
      ];
      rows = λ fits q'' r'' x. let w = l.rows (omega arith) q'' r'' (LabelsTo.label h small fits x) in (w.0, omega (arith, w.1));
    }))

-- A label makes the name too long.
pub skipping_long : (b : List ℕ) (p s q r k n : ℕ) → SkippingLabels b p s q r k → head_at b q ≡ Ok (Label n) → max_size < r + n + 1 → Faulty b p s (Form LONG_NAME)
skipping_long b p s q r k n l h long = l.faults (Form LONG_NAME) (Faulty.long h long)

-- The consecutive labels that the walk has skipped.
pub skipping_row : (b : List ℕ) (p s q r k : ℕ) → SkippingLabels b p s q r k → q < length b → RowOf b p s q r k
skipping_row b p s q r k l within = let w = l.rows (omega arith) q r LabelsTo.none in (w.0, omega (arith, w.1))

-- The name, fault or end after consecutive labels gives that at their start.

-- The name at p that ends with the one at q. s and r are the sizes of the labels before p and before q, and `more` labels are between them.
abbrev pub Longer : List ℕ → ℕ → ℕ → ℕ → ℕ → Labels → Type 0
Longer b p s r more name = (whole : Labels) × NameAt b p whole × (s + name_size whole ≡ r + name_size name) × (length whole ≡ more + length name)

-- A name after consecutive labels is the end of a name that begins with them, if both fit.
pub row_names : (b : List ℕ) {p s q r : ℕ} (x : LabelsTo b p s q r) (name : Labels) → NameAt b q name → r + name_size name ≤ max_size
    → Longer b p s r (row_count x) name
row_names b none name m short = (name, m, refl, omega arith)
row_names b (label {p = p} {n = n} {s = s} h small fits x) name m short =
    let w = row_names b x name m short in
    let e : name_size (label_at b p n ∷ w.0) ≡ n + 1 + name_size w.0 = name_size-label_at b p n w.0 fits in
    (label_at b p n ∷ w.0, NameAt.label h fits w.1 (omega (arith, w.2)), omega (arith, w.2, e), omega (arith, w.3))

-- A fault after consecutive labels is the fault at their start.
pub row_faults : (b : List ℕ) {p s q r : ℕ} → LabelsTo b p s q r → (f : Fault) → Faulty b q r f → Faulty b p s f
row_faults b none f m = m
row_faults b (label h small fits x) f m = Faulty.label h small fits (row_faults b x f m)

-- Where a name after consecutive labels ends, the name at their start ends too.
pub row_ends : (b : List ℕ) {p s q r : ℕ} → LabelsTo b p s q r → (e : ℕ) → NameContinues b q r e → NameContinues b p s e
row_ends b none e m = m
row_ends b (label h small fits x) e m = NameContinues.label h small fits (row_ends b x e m)

-- The progress of a walk over labels and pointers, which has skipped k labels. The name or fault at q gives that at p.
pub record Leading (b : List ℕ) (p s q r k : ℕ) : Type 0 where
  pub within : q ≤ length b
  pub short : r ≤ max_size
  pub few : s + k ≤ r
  pub names : (name : Labels) → NameAt b q name → r + name_size name ≤ max_size → Longer b p s r k name
  pub faults : (f : Fault) → Faulty b q r f → Faulty b p s f

-- The walk goes on after consecutive labels.
pub leading_row : (b : List ℕ) (p s q r k q' n : ℕ) (target : Option ℕ) → Leading b p s q r k → SkipsLabels b q r q' n target
    → Leading b p s q' (r + (q' - q)) (k + n)
leading_row b p s q r k q' n target l x = record {
  within = omega (arith, x.within);
  short = x.short;
  few = omega (arith, l.few, x.few);
  names = λ name m h.
      let w = row_names b x.row name m h in
      let v = l.names w.0 w.1 (omega (arith, w.2)) in
      (v.0, v.1, v.2 ∙ w.2, omega (arith, v.3, w.3, x.counted));
  faults = λ f m. l.faults f (row_faults b x.row f m);
}

-- The walk goes on where a pointer leads back to.
pub leading_pointer : (b : List ℕ) (p s q r k t : ℕ) → Leading b p s q r k → head_at b q ≡ Ok (Pointer t) → t < q → Leading b p s t r k
leading_pointer b p s q r k t l h back = record {
  within = omega (arith, l.within);
  short = l.short;
  few = l.few;
  names = λ name m. l.names name (NameAt.pointer h back m);
  faults = λ f m. l.faults f (Faulty.pointer h back m);
}

-- The walk ends at the root label: it has the size and the number of the labels.
pub leading_root : (b : List ℕ) (p s q r k : ℕ) → Leading b p s q r k → head_at b q ≡ Ok Root → Measures b p s (r - s) k
leading_root b p s q r k l h =
    let w = l.names [] (NameAt.root h) (omega (arith, l.short)) in
    record {
      short = omega (arith, l.short, l.few);
      few = omega (arith, l.few);
      name = ((w.0, w.1), omega (arith, w.2), omega (arith, w.3));
    }

-- What a walk over a name returns, by what ends its first consecutive labels.

-- Labels and then a root label: the name ends after the root's octet.
pub arrives_root : (b : List ℕ) (p q n : ℕ) → SkipsLabels b p 0 q n None → Arrives b p (q + 1) (q - p) n
arrives_root b p q n x =
    let w = row_names b x.row [] (NameAt.root x.there) (omega (arith, x.short)) in
    record {
      name = ((w.0, w.1), omega (arith, w.2), omega (arith, w.3, x.counted));
      name_ends = row_ends b x.row (q + 1) (NameContinues.root x.there);
      within = omega (arith, x.within);
    }

-- Labels and then a pointer back: the name has also the labels that the pointer leads to, if all fit.
pub arrives_pointer : (b : List ℕ) (p q n t size count all number : ℕ) → SkipsLabels b p 0 q n (Some t) → t < q → NameOfSizeAndCount b t size count
    → (q - p) + size ≤ max_size → all ≡ (q - p) + size → number ≡ n + count → Arrives b p (q + 2) all number
arrives_pointer b p q n t size count all number x back name short size_is count_is =
    let w = row_names b x.row name.0.0 (NameAt.pointer x.there back name.0.1) (omega (arith, name.1)) in
    let inside : q + 1 < length b = pointer_within b q t x.there in
    record {
      name = ((w.0, w.1), omega (arith, w.2, name.1), omega (arith, w.3, name.2, x.counted));
      name_ends = row_ends b x.row (q + 2) (NameContinues.pointer x.there);
      within = omega arith;
    }

-- Labels and then a pointer that doesn't lead back: the pointer is the fault.
pub fails_ahead : (b : List ℕ) (p s q n t : ℕ) → SkipsLabels b p s q n (Some t) → q ≤ t → Faulty b p s (Form BAD_POINTER)
fails_ahead b p s q n t x ahead = row_faults b x.row (Form BAD_POINTER) (Faulty.ahead x.there ahead)

-- Labels and then a pointer back to a fault: it is the fault of the name.
pub fails_after : (b : List ℕ) (p q n t : ℕ) (f : Fault) → SkipsLabels b p 0 q n (Some t) → t < q → Faulty b t (q - p) f → FaultAt b p f
fails_after b p q n t f x back m =
    let P : ℕ → Type 0 = λ k. Faulty b t k f in
    let e : q - p ≡ 0 + (q - p) = omega arith in
    row_faults b x.row f (Faulty.pointer x.there back (subst P e m))

-- The two octets of a pointer, as a number.
pub pointer_number : (b : List ℕ) (p t word : ℕ) → p + 1 < length b → get_or b p 0 < 256 → get_or b (p + 1) 0 < 256 → t < 16384
    → word ≡ get_or b p 0 * 256 + get_or b (p + 1) 0 → word ≡ bit_or t 49152 → head_at b p ≡ Ok (Pointer t)
pointer_number b p t word within first second small read same =
    let marked : bit_or t 49152 ≡ 49152 + t = or_comm t 49152 ∙ or_shifted 3 14 t small in
    let both : get_or b p 0 * 256 + get_or b (p + 1) 0 ≡ 49152 + t = sym read ∙ same ∙ marked in
    let high : get_or b p 0 ≡ 192 + t / 256 = omega arith in
    let low : get_or b (p + 1) 0 ≡ t % 256 = omega arith in
    pointer_begins b p t small (slice_get-get_or b p 0 (omega arith) ∙ ap Some high) (slice_get-get_or b (p + 1) 0 within ∙ ap Some low)

-- The extent of a name that is only a pointer to the cached name.
pub arrives_back : (b : List ℕ) (p : ℕ) (cached : CachedName) → LeadsBackTo b p cached → IsCached b cached → Arrives b p (p + 2) cached.size cached.count
arrives_back b p cached x is =
    let n = is x.known in
    let inside : p + 1 < length b = pointer_within b p cached.pos x.there in
    record { name = ((n.0.0, NameAt.pointer x.there x.back n.0.1), n.1, n.2); name_ends = NameContinues.pointer x.there; within = omega arith }
