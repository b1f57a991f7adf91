-- Names that use no octet of the fields stay when the fields change.
use Rattle.std.proofs.Common.{◌≡◌, ◌∙◌, ℕ, ◌+◌, ◌-◌, ◌≤◌, ◌⊎◌, inl, inr, List, [], ◌∷◌, take, drop, length, All, arith, refl, subst, sym, ap}
use Rattle.std.specs.Prelude.{Ok, Err, slice_get}
use Rattle.std.specs.Int.{w32, to_be_bytes}
use Rattle.std.proofs.lemmas.List.Elements.{All-nil, All-cons, All-head, All-tail}
use Rattle.dns_octets.specs.Octets.{overwritten}
use Rattle.dns_octets.proofs.theory.Overwritten.{kept_before, kept_after}
use Rattle.dns_name.specs.Names.{Labels, Fault, head_at, label_at, NameAt, Faulty}
use Rattle.dns_name.specs.Parsers.{number_at}
use Rattle.dns_name.specs.Unique.{label_head}
use Rattle.dns_name.specs.declared.head.Head.TheVariants.{Root, Label, Pointer}
use Rattle.dns_name.proofs.theory.HeadLemmas.{label_there, root_there, root_begins, label_begins, same_head}
use Rattle.dns_wire.proofs.theory.Stability.{same_part, get_take, get_dropped}
use Rattle.dns_edit.specs.Ttls.{with_ttl, with_ttls}
use Rattle.dns_edit.specs.Uses.{Apart, NameApart}
use Rattle.dns_edit.specs.Readings.{ReadsNameAlike, NamesReadAlike}
use Rattle.dns_edit.proofs.AgreeLemmas.{as_long}
use Rattle.dns_edit.proofs.EntryLemmas.{fields_within, apart_in}

-- both have the same octets outside the fields
pub record SameApart (fields b c : List ℕ) : Type 0 where
  pub long : length b ≡ length c
  pub same : (k : ℕ) → Apart fields k (k + 1) → slice_get b k ≡ slice_get c k

-- Octets that agree apart from the fields agree the other way too.
pub other_way : {fields b c : List ℕ} → SameApart fields b c → SameApart fields c b
other_way s = record { long = sym s.long; same = λ k a. sym (s.same k a) }

-- what a name with a label or a pointer is apart from
pub apart_label : {b fields : List ℕ} {p n : ℕ} → NameApart b fields p → head_at b p ≡ Ok (Label n) → Apart fields p (p + 1 + n) × NameApart b fields (p + 1 + n)
apart_label (NameApart.root h a) e = cc
apart_label {b = b} {fields = fields} {p = p} (NameApart.label {n = k} h a x) e =
    let P : ℕ → Type 0 = λ n. Apart fields p (p + 1 + n) × NameApart b fields (p + 1 + n) in
    subst P (let same : k ≡ _ = cc in same) (a, x)
apart_label (NameApart.pointer h a x) e = cc

-- A pointer of a name that is apart from the fields is apart from them, and so is the name that it leads to.
pub apart_pointer : {b fields : List ℕ} {p t : ℕ} → NameApart b fields p → head_at b p ≡ Ok (Pointer t) → Apart fields p (p + 2) × NameApart b fields t
apart_pointer (NameApart.root h a) e = cc
apart_pointer (NameApart.label h a x) e = cc
apart_pointer {b = b} {fields = fields} {p = p} (NameApart.pointer {t = k} h a x) e =
    let P : ℕ → Type 0 = λ t. Apart fields p (p + 2) × NameApart b fields t in
    subst P (let same : k ≡ _ = cc in same) (a, x)

-- The root label of a name that is apart from the fields is apart from them.
pub apart_root : {b fields : List ℕ} {p : ℕ} → NameApart b fields p → head_at b p ≡ Ok Root → Apart fields p (p + 1)
apart_root (NameApart.root h a) e = a
apart_root (NameApart.label h a x) e = cc
apart_root (NameApart.pointer h a x) e = cc

apart_fault : {b fields : List ℕ} {p : ℕ} {f : Fault} → NameApart b fields p → head_at b p ≡ Err f → ⊥
apart_fault (NameApart.root h a) e = cc
apart_fault (NameApart.label h a x) e = cc
apart_fault (NameApart.pointer h a x) e = cc

module _ {fields b c : List ℕ} (s : SameApart fields b c) where
  -- Octets that are apart from the fields are the same in both.
  pub part_same : (p n : ℕ) → Apart fields p (p + n) → take n (drop p b) ≡ take n (drop p c)
  part_same p n a = same_part b c n p (λ k l m. s.same k (apart_in fields p (p + n) k (k + 1) l (omega arith) a))

  -- A root label that is apart from the fields begins at the same offset in the other octets.
  pub root_same : {p : ℕ} → Apart fields p (p + 1) → head_at b p ≡ Ok Root → head_at c p ≡ Ok Root
  root_same {p = p} a h = root_begins c p (sym (s.same p a) ∙ root_there b p h)

  -- A label that is apart from the fields begins at the same offset in the other octets, with the same length.
  pub label_same : {p n : ℕ} → Apart fields p (p + 1 + n) → head_at b p ≡ Ok (Label n) → head_at c p ≡ Ok (Label n)
  label_same {p = p} {n = n} a h =
      let l = label_head b p n h in
      let here = apart_in fields p (p + 1 + n) p (p + 1) (omega arith) (omega arith) a in
      label_begins c p n (omega (arith, l.some)) (omega (arith, l.short)) (sym (s.same p here) ∙ label_there b p n h)

  -- A pointer that is apart from the fields is at the same offset in the other octets, and leads to the same target.
  pub pointer_same : {p t : ℕ} → Apart fields p (p + 2) → head_at b p ≡ Ok (Pointer t) → head_at c p ≡ Ok (Pointer t)
  pointer_same {p = p} a h =
      let first = apart_in fields p (p + 2) p (p + 1) (omega arith) (omega arith) a in
      let second = apart_in fields p (p + 2) (p + 1) (p + 1 + 1) (omega arith) (omega arith) a in
      sym (same_head b c p (s.same p first) (s.same (p + 1) second)) ∙ h

  -- A label that is apart from the fields has the same octets in both.
  pub label_at_same : (p n : ℕ) → Apart fields p (p + 1 + n) → label_at b p n ≡ label_at c p n
  label_at_same p n a =
      let e : p + 1 + n - (p + 1) ≡ n = omega arith in
      let inner = apart_in fields p (p + 1 + n) (p + 1) (p + 1 + n) (omega arith) (omega arith) a in
      ap (λ k. take k (drop (p + 1) b)) e ∙ part_same (p + 1) n inner ∙ ap (λ k. take k (drop (p + 1) c)) (sym e)

  -- A name that is apart from the fields is so in the other octets too.
  pub apart_same : {p : ℕ} → NameApart b fields p → NameApart c fields p
  apart_same (NameApart.root h a) = NameApart.root (root_same a h) a
  apart_same (NameApart.label h a x) = NameApart.label (label_same a h) a (apart_same x)
  apart_same (NameApart.pointer h a x) = NameApart.pointer (pointer_same a h) a (apart_same x)

  -- A name that is apart from the fields is encoded at the same offset in the other octets.
  pub name_same : {p : ℕ} {name : Labels} → NameApart b fields p → NameAt b p name → NameAt c p name
  name_same w (NameAt.root h) = NameAt.root (root_same (apart_root w h) h)
  name_same w (NameAt.label {p = p} {n = n} {name = name} h fits x small) =
      let y = apart_label w h in
      let long = s.long in
      let P : List ℕ → Type 0 = λ first. NameAt c p (first ∷ name) in
      subst P (sym (label_at_same p n y.0)) (NameAt.label (label_same y.0 h) (omega arith) (name_same y.1 x) small)
  name_same w (NameAt.pointer h back x) = let y = apart_pointer w h in NameAt.pointer (pointer_same y.0 h) back (name_same y.1 x)

  -- If reading a name that is apart from the fields fails, it fails with the same fault in the other octets.
  pub fault_same : {p n : ℕ} {f : Fault} → NameApart b fields p → Faulty b p n f → Faulty c p n f
  fault_same w (Faulty.head h) = absurd (apart_fault w h)
  fault_same w (Faulty.long h l) = let y = apart_label w h in Faulty.long (label_same y.0 h) l
  fault_same w (Faulty.cut h l m) = let y = apart_label w h in let long = s.long in Faulty.cut (label_same y.0 h) l (omega arith)
  fault_same w (Faulty.ahead h l) = let y = apart_pointer w h in Faulty.ahead (pointer_same y.0 h) l
  fault_same w (Faulty.label h l m x) = let y = apart_label w h in let long = s.long in Faulty.label (label_same y.0 h) l (omega arith) (fault_same y.1 x)
  fault_same w (Faulty.pointer h back x) = let y = apart_pointer w h in Faulty.pointer (pointer_same y.0 h) back (fault_same y.1 x)

-- A name that is apart from the fields reads the same in octets that agree apart from them.
pub reads_alike : {fields b c : List ℕ} → SameApart fields b c → (p : ℕ) → NameApart b fields p → ReadsNameAlike b c p
reads_alike s p w = record {
  names = λ name. (name_same s w, name_same (other_way s) (apart_same s w));
  faults = λ f. (fault_same s w, fault_same (other_way s) (apart_same s w));
}

-- octets that are overwritten

-- An octet that isn't overwritten is the same.
pub outside : (b xs : List ℕ) (p e k : ℕ) → p + length xs ≡ e → e ≤ length b → (e ≤ k) ⊎ (k + 1 ≤ p) → slice_get b k ≡ slice_get (overwritten b p xs) k
outside b xs p e k is within (inl l) =
    let j : e + (k - e) ≡ k = omega arith in
    ap (slice_get b) (sym j) ∙ sym (get_dropped b e (k - e)) ∙ ap (λ (ys : List ℕ). slice_get ys (k - e)) (sym (kept_after b xs p e is within))
    ∙ get_dropped (overwritten b p xs) e (k - e) ∙ ap (slice_get (overwritten b p xs)) j
outside b xs p e k is within (inr l) =
    sym (get_take b p k (omega arith)) ∙ ap (λ (ys : List ℕ). slice_get ys k) (sym (kept_before b xs p (omega arith))) ∙ get_take (overwritten b p xs) p k (omega arith)

-- all fields are in the octets
abbrev pub InOctets : List ℕ → List ℕ → Type 0
InOctets b fields = All (λ f. f + 4 ≤ length b) fields

-- A TTL has four octets.
pub four : (n : ℕ) → length (to_be_bytes w32 n) ≡ 4
four n = refl

-- Writing one TTL changes its field alone.
pub with_ttl_same : (change : ℕ → ℕ) (f : ℕ) (b : List ℕ) → f + 4 ≤ length b → SameApart (f ∷ []) b (with_ttl change f b)
with_ttl_same change f b l =
    let xs = to_be_bytes w32 (change (number_at w32 b f)) in
    let n = four (change (number_at w32 b f)) in
    record {
      long = as_long b xs f (omega arith);
      same = λ k a. outside b xs f (f + 4) k (omega arith) l (All-head (λ f. (f + 4 ≤ k) ⊎ (k + 1 ≤ f)) f [] a);
    }

-- Writing the TTLs changes their fields alone.
pub with_ttls_same : (change : ℕ → ℕ) (fields b : List ℕ) → InOctets b fields → SameApart fields b (with_ttls change fields b)
with_ttls_same change [] b within = record { long = refl; same = λ k a. refl }
with_ttls_same change (f ∷ fields) b within =
    let first = with_ttl_same change f b (All-head (λ f. f + 4 ≤ length b) f fields within) in
    let c = with_ttl change f b in
    let later : InOctets c fields = subst (λ n. All (λ f. f + 4 ≤ n) fields) first.long (All-tail (λ f. f + 4 ≤ length b) f fields within) in
    let rest = with_ttls_same change fields c later in
    record {
      long = first.long ∙ rest.long;
      same = λ k a.
          let P : ℕ → Type 0 = λ f. (f + 4 ≤ k) ⊎ (k + 1 ≤ f) in
          first.same k (All-cons P f [] (All-head P f fields a) (All-nil P)) ∙ rest.same k (All-tail P f fields a);
    }

-- A name that uses no octet of the fields reads the same after their TTLs are changed.
pub names_read_alike : NamesReadAlike
names_read_alike change b fields avoid =
    let s = with_ttls_same change fields b (fields_within b avoid.ttls) in
    (sym s.long, reads_alike s)
