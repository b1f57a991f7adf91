-- Names that read alike in two messages do so too if both end earlier, as for a parser that ends with the RDATA.
use Rattle.std.proofs.Common.{◌≡◌, ◌∙◌, ℕ, ◌+◌, ◌-◌, ◌<◌, ◌≤◌, inl, inr, List, [], ◌∷◌, take, length, length-take, map, arith, refl, sym, ap}
use Rattle.std.specs.Prelude.{Option, Some, None, Ok, Err, slice_get}
use Rattle.std.proofs.lemmas.Bool.{cases_lt}
use Rattle.std.proofs.lemmas.Bool.Decides.{nat_tests}
use Rattle.std.proofs.lemmas.Grind.{common_steps}
use Rattle.std.proofs.lemmas.Option.{slice_get_past, slice_get_within}
use Rattle.dns_name.specs.Names.{Labels, Fault, Faulty, head_of, head_at, label_at, NameAt}
use Rattle.dns_name.specs.Names.Fault.{ShortInput}
use Rattle.dns_name.specs.Unique.{label_head, name_size-label_at}
use Rattle.dns_name.specs.declared.head.Head.TheVariants.{Root, Label, Pointer}
use Rattle.dns_name.proofs.theory.HeadLemmas.{label_there, root_there, root_begins, root_within, label_begins, same_head, pointer_within}
use Rattle.dns_wire.proofs.theory.Stability.{get_take, same_part}
use Rattle.dns_edit.specs.Alike.{EntriesAlike, ReadsNameAs}
use Rattle.dns_edit.proofs.AlikeLemmas.{AllAlike, NameAlike, Other, alike_label, alike_pointer, alike_root, all_questions, all_sections}
use Rattle.dns_edit.proofs.DataLemmas.{lift_label, lift_pointer, lift_root, past_same}

-- the first octet of a pointer without the second
short_head : (first second : Option ℕ) (t : ℕ) → head_of first second ≡ Ok (Pointer t) → head_of first None ≡ Err ShortInput
short_head None second t h = refl
short_head (Some x) None t h = grind (arith, nat_tests, common_steps, h)
short_head (Some x) (Some y) t h = grind (arith, nat_tests, common_steps, h)

pointer_cut : (b : List ℕ) (e p t : ℕ) → head_at b p ≡ Ok (Pointer t) → p < e → e ≤ p + 1 → head_at (take e b) p ≡ Err ShortInput
unfolding head_at
pointer_cut b e p t h l m =
    let n = length-take e b in
    let second : slice_get (take e b) (p + 1) ≡ None = slice_get_past (take e b) (p + 1) (omega arith) in
    (λ i. head_of (get_take b e p l i) (second i)) ∙ short_head (slice_get b p) (slice_get b (p + 1)) t h

label_cut : (b : List ℕ) (e p n : ℕ) → p + 1 + n ≤ e → label_at (take e b) p n ≡ label_at b p n
label_cut b e p n l =
    let k = p + 1 + n - (p + 1) in
    same_part (take e b) b k (p + 1) (λ j low high. get_take b e j (omega arith))

module _ {f : List ℕ → List ℕ} {b c : List ℕ} where
  -- the other way round
  alike_back : {p : ℕ} → NameAlike f b c p → NameAlike f c b p
  alike_back (NameAlike.root h g) = NameAlike.root g h
  alike_back (NameAlike.label h g l x) = NameAlike.label g h (sym l) (alike_back x)
  alike_back (NameAlike.pointer h g x) = NameAlike.pointer g h (alike_back x)

module _ (b c : List ℕ) (e : ℕ) where
  root_stays : (p : ℕ) → head_at c p ≡ Ok Root → head_at (take e b) p ≡ Ok Root → head_at (take e c) p ≡ Ok Root
  root_stays p g h =
      let n = length-take e b in
      let l = root_within (take e b) p h in
      root_begins (take e c) p (get_take c e p (omega arith) ∙ root_there c p g)

  label_stays : (p : ℕ) {n : ℕ} → head_at c p ≡ Ok (Label n) → head_at (take e b) p ≡ Ok (Label n) → head_at (take e c) p ≡ Ok (Label n)
  label_stays p {n = n} g h =
      let m = length-take e b in
      let l = slice_get_within (take e b) p n (label_there (take e b) p n h) in
      let k = label_head c p n g in
      label_begins (take e c) p n (omega (arith, k.some)) (omega (arith, k.short)) (get_take c e p (omega arith) ∙ label_there c p n g)

  pointer_stays : (p : ℕ) {t : ℕ} → head_at c p ≡ Ok (Pointer t) → head_at (take e b) p ≡ Ok (Pointer t) → head_at (take e c) p ≡ Ok (Pointer t)
  pointer_stays p {t = t} g h =
      let n = length-take e b in
      let l = pointer_within (take e b) p t h in
      let second : p + 1 < e = omega arith in
      same_head (take e c) c p (get_take c e p (omega arith)) (get_take c e (p + 1) second) ∙ g

-- octets that are cut at the same offset
cut_long : (b c : List ℕ) (e : ℕ) → length b ≡ length c → length (take e b) ≡ length (take e c)
cut_long b c e long = let n = length-take e b in let m = length-take e c in omega arith

module _ {f : List ℕ → List ℕ} {b c : List ℕ} (long : length b ≡ length c) (e : ℕ) where
  name_cut : {p : ℕ} {name : Labels} → NameAlike f b c p → NameAt (take e b) p name → Other f (take e c) p name
  name_cut w (NameAt.root {p = p} h) =
      record { name' = []; is_at = NameAt.root (root_stays b c e p (alike_root w (lift_root b e p h)) h); alike = refl; size = refl }
  name_cut w (NameAt.label {p = p} {n = n} {name = name} h fits x small) =
      let y = alike_label w (lift_label b e p h) in
      let r = name_cut y.2 x in
      let same = cut_long b c e long in
      let k = length-take e b in
      let inside : p + 1 + n ≤ length (take e c) = omega arith in
      let before : p + 1 + n ≤ e = omega arith in
      let size = r.size in
      let mine = name_size-label_at (take e b) p n name fits in
      let its = name_size-label_at (take e c) p n r.name' inside in
      let label = ap f (label_cut c e p n before) ∙ y.1 ∙ ap f (sym (label_cut b e p n before)) in
      record {
        name' = label_at (take e c) p n ∷ r.name';
        is_at = NameAt.label (label_stays b c e p y.0 h) inside r.is_at (omega arith);
        alike = λ i. label i ∷ r.alike i;
        size = its ∙ ap (λ k. n + 1 + k) size ∙ sym mine;
      }
  name_cut w (NameAt.pointer {p = p} h back x) =
      let y = alike_pointer w (lift_pointer b e p h) in
      let r = name_cut y.1 x in
      record { name' = r.name'; is_at = NameAt.pointer (pointer_stays b c e p y.0 h) back r.is_at; alike = r.alike; size = r.size }

  head_fault : {p : ℕ} {g : Fault} → NameAlike f b c p → head_at (take e b) p ≡ Err g → head_at (take e c) p ≡ Err g
  head_fault (NameAlike.root {p = p} h k) g = elim (cases_lt p e) [
    | inl l ↦ let there = root_begins (take e b) p (get_take b e p l ∙ root_there b p h) in cc
    | inr l ↦ sym (past_same b c e p l) ∙ g
  ]
  head_fault (NameAlike.label {p = p} {n = n} h k s x) g = elim (cases_lt p e) [
    | inl l ↦
        let m = label_head b p n h in
        let there = label_begins (take e b) p n (omega (arith, m.some)) (omega (arith, m.short)) (get_take b e p l ∙ label_there b p n h) in cc
    | inr l ↦ sym (past_same b c e p l) ∙ g
  ]
  head_fault (NameAlike.pointer {p = p} {t = t} h k x) g = elim (cases_lt p e) [
    | inl l ↦ elim (cases_lt (p + 1) e) [
      | inl m ↦ let there = same_head (take e b) b p (get_take b e p l) (get_take b e (p + 1) m) ∙ h in cc
      | inr m ↦ pointer_cut c e p t k l m ∙ sym (pointer_cut b e p t h l m) ∙ g
    ]
    | inr l ↦ sym (past_same b c e p l) ∙ g
  ]

  fault_cut : {p s : ℕ} {g : Fault} → NameAlike f b c p → Faulty (take e b) p s g → Faulty (take e c) p s g
  fault_cut w (Faulty.head h) = Faulty.head (head_fault w h)
  fault_cut w (Faulty.long h l) = Faulty.long (label_stays b c e _ (alike_label w (lift_label b e _ h)).0 h) l
  fault_cut w (Faulty.cut h l m) = let same = cut_long b c e long in Faulty.cut (label_stays b c e _ (alike_label w (lift_label b e _ h)).0 h) l (omega arith)
  fault_cut w (Faulty.ahead h l) = Faulty.ahead (pointer_stays b c e _ (alike_pointer w (lift_pointer b e _ h)).0 h) l
  fault_cut w (Faulty.label h l m x) =
      let y = alike_label w (lift_label b e _ h) in
      let same = cut_long b c e long in
      Faulty.label (label_stays b c e _ y.0 h) l (omega arith) (fault_cut y.2 x)
  fault_cut w (Faulty.pointer h back x) =
      let y = alike_pointer w (lift_pointer b e _ h) in Faulty.pointer (pointer_stays b c e _ y.0 h) back (fault_cut y.1 x)

-- A name that reads alike does so too if both messages end at an earlier offset.
pub reads_cut : {f : List ℕ → List ℕ} {b c : List ℕ} {p : ℕ} → length b ≡ length c → (e : ℕ) → NameAlike f b c p → ReadsNameAs (map f) (take e b) (take e c) p
reads_cut long e w =
    let back = alike_back w in
    record {
      before = λ name x. let o = name_cut long e w x in (o.name', o.is_at, o.alike);
      after = λ name x. let o = name_cut (sym long) e back x in (o.name', o.is_at, o.alike);
      faults = λ g. (fault_cut long e w, fault_cut (sym long) e back);
    }

-- Messages whose entries and names in RDATA read alike read alike.
pub entries_alike : {f : List ℕ → List ℕ} {b c : List ℕ} → AllAlike f b c → EntriesAlike (map f) b c
entries_alike all = record { questions = all_questions all; sections = all_sections all; rdata = λ p end x. reads_cut all.long end (all.rdata p end x) }
