-- RDATA that is read of a message whose TTLs were changed in place.
use Rattle.std.proofs.Common.{◌≡◌, ◌∙◌, ℕ, zero, suc, ◌+◌, ◌-◌, ◌<◌, ◌≤◌, List, [], ◌∷◌, take, length-take, inl, inr, arith, refl, subst, sym}
use Rattle.std.specs.Prelude.{Ok, Err, Some, None, slice_get}
use Rattle.std.proofs.lemmas.Bool.{cases_lt}
use Rattle.std.proofs.lemmas.Option.{slice_get_past}
use Rattle.std.specs.Int.{w16}
use Rattle.dns_name.specs.Names.{Labels, Fault, Faulty, head_at, NameAt}
use Rattle.dns_name.specs.Parsers.{number_at}
use Rattle.dns_name.specs.Unique.{label_head}
use Rattle.dns_name.specs.declared.head.Head.TheVariants.{Root, Label, Pointer}
use Rattle.dns_name.proofs.theory.HeadLemmas.{label_there, root_there, root_begins, label_begins, same_head, pointer_within}
use Rattle.dns_name.proofs.theory.Names.{one_end}
use Rattle.dns_wire.proofs.theory.Stability.{get_take}
use Rattle.dns_item.specs.Items.{SkipsRecord}
use Rattle.dns_item.proofs.theory.EntryLemmas.{record_end_or_fault}
use Rattle.dns_read.specs.Reading.{Skipped}
use Rattle.dns_read.specs.Reading.Skipped.{none, more}
use Rattle.dns_edit.specs.Uses.{Apart, NameApart}
use Rattle.dns_edit.specs.Rdata.{DataApart}
use Rattle.dns_edit.specs.Edits.{RecordApart}
use Rattle.dns_edit.specs.Readings.{RdataReadsAlike}
use Rattle.dns_edit.proofs.EntryLemmas.{Split, Step, split_step, split_all, fields_within, long_record, apart_in}
use Rattle.dns_edit.proofs.StayLemmas.{SameApart, other_way, apart_label, apart_pointer, apart_root, apart_same, root_same, label_same, pointer_same, label_at_same, part_same, with_ttls_same}

get_of_take : (b : List ℕ) (e k x : ℕ) → slice_get (take e b) k ≡ Some x → slice_get b k ≡ Some x
get_of_take b zero k x h = cc
get_of_take [] (suc e) k x h = h
get_of_take (y ∷ b) (suc e) zero x h = h
get_of_take (y ∷ b) (suc e) (suc k) x h = get_of_take b e k x h

cut_none : (c : List ℕ) (e k : ℕ) → None ≡ slice_get c k → None ≡ slice_get (take e c) k
cut_none c zero k h = refl
cut_none [] (suc e) k h = refl
cut_none (y ∷ c) (suc e) zero h = h
cut_none (y ∷ c) (suc e) (suc k) h = cut_none c e k h

get_cut : (b c : List ℕ) (e k : ℕ) → slice_get b k ≡ slice_get c k → slice_get (take e b) k ≡ slice_get (take e c) k
get_cut b c zero k h = refl
get_cut [] [] (suc e) k h = refl
get_cut [] (y ∷ c) (suc e) zero h = h
get_cut [] (y ∷ c) (suc e) (suc k) h = cut_none c e k h
get_cut (x ∷ b) [] (suc e) zero h = h
get_cut (x ∷ b) [] (suc e) (suc k) h = sym (cut_none b e k (sym h))
get_cut (x ∷ b) (y ∷ c) (suc e) zero h = h
get_cut (x ∷ b) (y ∷ c) (suc e) (suc k) h = get_cut b c e k h

-- What begins in the octets before an offset begins in all octets.
module _ (b : List ℕ) (e : ℕ) where
  -- a root label
  pub lift_root : (p : ℕ) → head_at (take e b) p ≡ Ok Root → head_at b p ≡ Ok Root
  lift_root p h = root_begins b p (get_of_take b e p 0 (root_there (take e b) p h))

  -- a label
  pub lift_label : (p : ℕ) {n : ℕ} → head_at (take e b) p ≡ Ok (Label n) → head_at b p ≡ Ok (Label n)
  lift_label p {n = n} h =
      let l = label_head (take e b) p n h in
      label_begins b p n (omega (arith, l.some)) (omega (arith, l.short)) (get_of_take b e p n (label_there (take e b) p n h))

  -- a pointer
  pub lift_pointer : (p : ℕ) {t : ℕ} → head_at (take e b) p ≡ Ok (Pointer t) → head_at b p ≡ Ok (Pointer t)
  lift_pointer p {t = t} h =
      let w = pointer_within (take e b) p t h in
      let n = length-take e b in
      let inside : p + 1 < e = omega arith in
      sym (same_head (take e b) b p (get_take b e p (omega arith)) (get_take b e (p + 1) inside)) ∙ h

cut_same : {fields b c : List ℕ} (e : ℕ) → SameApart fields b c → SameApart fields (take e b) (take e c)
cut_same {b = b} {c = c} e s = record {
  long = let l = length-take e b in let m = length-take e c in let long = s.long in omega arith;
  same = λ k a. get_cut b c e k (s.same k a);
}

name_cut : {fields b c : List ℕ} (e : ℕ) → SameApart fields b c → {p : ℕ} {name : Labels} → NameApart b fields p → NameAt (take e b) p name → NameAt (take e c) p name
name_cut {b = b} e s w (NameAt.root h) = NameAt.root (root_same (cut_same e s) (apart_root w (lift_root b e _ h)) h)
name_cut {b = b} {c = c} e s w (NameAt.label {p = p} {n = n} {name = name} h fits x small) =
    let y = apart_label w (lift_label b e _ h) in
    let cut = cut_same e s in
    let long = cut.long in
    let P : List ℕ → Type 0 = λ first. NameAt (take e c) p (first ∷ name) in
    subst P (sym (label_at_same cut p n y.0)) (NameAt.label (label_same cut y.0 h) (omega arith) (name_cut e s y.1 x) small)
name_cut {b = b} e s w (NameAt.pointer h back x) =
    let y = apart_pointer w (lift_pointer b e _ h) in NameAt.pointer (pointer_same (cut_same e s) y.0 h) back (name_cut e s y.1 x)

-- Past the end of the RDATA there is nothing in both.
pub past_same : (b c : List ℕ) (e p : ℕ) → e ≤ p → head_at (take e b) p ≡ head_at (take e c) p
past_same b c e p l =
    let n = length-take e b in
    let m = length-take e c in
    same_head (take e b) (take e c) p (slice_get_past (take e b) p (omega arith) ∙ sym (slice_get_past (take e c) p (omega arith)))
    (slice_get_past (take e b) (p + 1) (omega arith) ∙ sym (slice_get_past (take e c) (p + 1) (omega arith)))

module _ {fields b c : List ℕ} (e : ℕ) (s : SameApart fields b c) where
  head_fault : {p : ℕ} {f : Fault} → NameApart b fields p → head_at (take e b) p ≡ Err f → head_at (take e c) p ≡ Err f
  head_fault (NameApart.root {p = p} h a) g = elim (cases_lt p e) [
    | inl l ↦ let there = root_begins (take e b) p (get_take b e p l ∙ root_there b p h) in cc
    | inr l ↦ sym (past_same b c e p l) ∙ g
  ]
  head_fault (NameApart.label {p = p} {n = n} h a x) g = elim (cases_lt p e) [
    | inl l ↦
        let k = label_head b p n h in
        let there = label_begins (take e b) p n (omega (arith, k.some)) (omega (arith, k.short)) (get_take b e p l ∙ label_there b p n h) in cc
    | inr l ↦ sym (past_same b c e p l) ∙ g
  ]
  head_fault (NameApart.pointer {p = p} h a x) g =
      let first = s.same p (apart_in fields p (p + 2) p (p + 1) (omega arith) (omega arith) a) in
      let second = s.same (p + 1) (apart_in fields p (p + 2) (p + 1) (p + 1 + 1) (omega arith) (omega arith) a) in
      sym (same_head (take e b) (take e c) p (get_cut b c e p first) (get_cut b c e (p + 1) second)) ∙ g

  fault_cut : {p n : ℕ} {f : Fault} → NameApart b fields p → Faulty (take e b) p n f → Faulty (take e c) p n f
  fault_cut w (Faulty.head h) = Faulty.head (head_fault w h)
  fault_cut w (Faulty.long h l) = let y = apart_label w (lift_label b e _ h) in Faulty.long (label_same (cut_same e s) y.0 h) l
  fault_cut w (Faulty.cut h l m) =
      let y = apart_label w (lift_label b e _ h) in
      let cut = cut_same e s in
      let long = cut.long in
      Faulty.cut (label_same cut y.0 h) l (omega arith)
  fault_cut w (Faulty.ahead h l) = let y = apart_pointer w (lift_pointer b e _ h) in Faulty.ahead (pointer_same (cut_same e s) y.0 h) l
  fault_cut w (Faulty.label h l m x) =
      let y = apart_label w (lift_label b e _ h) in
      let cut = cut_same e s in
      let long = cut.long in
      Faulty.label (label_same cut y.0 h) l (omega arith) (fault_cut y.1 x)
  fault_cut w (Faulty.pointer h back x) = let y = apart_pointer w (lift_pointer b e _ h) in Faulty.pointer (pointer_same (cut_same e s) y.0 h) back (fault_cut y.1 x)

-- the record after k others
nth : (b : List ℕ) {fields : List ℕ} {n k start end p q : ℕ} → Split b fields n start → Skipped (RecordApart b fields) n start end → Skipped (SkipsRecord b) k start p → k < n → SkipsRecord b p q
    → (m : ℕ) × Step b fields m p q × RecordApart b fields p q
nth b x none y less s = absurd (omega arith)
nth b {fields = fields} {start = start} {q = q} x (more {n = m} {q = r} h rest) none less s =
    let e : r ≡ q = (record_end_or_fault b).one start r q h.0 s in
    (m, split_step b x refl s, subst (λ q. RecordApart b fields start q) e h)
nth b {fields = fields} {start = start} {p = p} x (more {n = m} {q = r} {r = end} h rest) (more {n = k} {q = r'} g y) less s =
    let e : r' ≡ r = (record_end_or_fault b).one start r' r g h.0 in
    let step = split_step b x refl h.0 in
    nth b step.next rest (subst (λ r. Skipped (SkipsRecord b) k r p) e y) (omega arith) s

-- RDATA reads the same after TTLs were changed.
pub rdata_reads_alike : RdataReadsAlike
rdata_reads_alike change b fields avoid k p q less y s =
    let x = nth b (split_all b avoid.ttls) avoid.records y less s in
    let step = x.1 in
    let apart = x.2 in
    let same = with_ttls_same change fields b (fields_within b avoid.ttls) in
    let r = s.name_end in
    let e1 : step.skips.name_end ≡ r = one_end b p _ _ step.skips.name_ends s.name_ends in
    let e2 : apart.0.name_end ≡ r = one_end b p _ _ apart.0.name_ends s.name_ends in
    let l = long_record b s in
    let high : r + 10 ≤ q = l.1 in
    let rdata : Apart fields (r + 8) q = subst (λ r. Apart fields (r + 8) q) e1 step.rdata in
    let n : r + 10 + (q - (r + 10)) ≡ q = omega arith in
    let range : Apart fields (r + 10) (r + 10 + (q - (r + 10))) = apart_in fields (r + 8) q (r + 10) (r + 10 + (q - (r + 10))) (omega arith) (omega arith) rdata in (
      subst (λ r. DataApart b fields (number_at w16 b r) (r + 10) q) e2 apart.2,
      record {
        octets = sym (part_same same (r + 10) (q - (r + 10)) range);
        names = λ p w.
            let back = apart_same same w in
            record {
              names = λ name. (name_cut q same w, name_cut q (other_way same) back);
              faults = λ f. (fault_cut q same w, fault_cut q (other_way same) back);
            };
      },
    )
