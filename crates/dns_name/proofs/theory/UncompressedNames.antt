-- Uncompressed names in octets.
use Rattle.std.proofs.Common.{◌≡◌, ◌≢◌, ℕ, zero, suc, ◌+◌, ◌-◌, ◌<◌, ◌≤◌, List, [], ◌∷◌, ◌++◌, length, length-append, length-drop, take, drop, get_or, arith, ap, sym, ◌∙◌, subst, refl}
use Rattle.std.specs.Prelude.{Some, Ok, IsOk, slice_get}
use Rattle.std.proofs.lemmas.List.{take-append-drop, drop-drop}
use Rattle.std.proofs.lemmas.List.Elements.{All-head, All-tail}
use Rattle.std.proofs.lemmas.Option.{get_or_from_slice_get, slice_get_within}
use Rattle.std.proofs.Math.Seq.{drop-cons, drop-append_seam, take-append_seam}
use Rattle.dns_name.specs.Names.{Fault, Labels, IsLabel, IsName, name_size, max_size, uncompressed, head_at, Begins, NameAt, label_at, LabelsTo, SkipFaulty}
use Rattle.dns_name.specs.Uncompressed.{IsUncompressed, WholeName, WholeName-prop}
use Rattle.dns_name.specs.declared.head.Head.TheVariants.{Root, Label, Pointer}
use Rattle.dns_name.specs.Unique.{EncodedName, same_name, name_size-label_at, length_label, encoded_name}
use Rattle.dns_name.proofs.theory.HeadLemmas.{label_there, root_there, root_begins, label_begins, name_begins, Skips, skips_none, skips_label}
use Rattle.dns_name.proofs.theory.NameOrFaultLaws.{not_both}
use Rattle.dns_name.proofs.theory.ExtentLaws.{skip_fault}

-- The octets from offset p on begin with the octet at p.
drop_at : (b : List ℕ) (p x : ℕ) → slice_get b p ≡ Some x → drop p b ≡ x ∷ drop (p + 1) b
drop_at b p x there =
    let within : p < length b = slice_get_within b p x there in
    let e : get_or b p 0 ≡ x = get_or_from_slice_get b p x 0 there in
    let s : suc p ≡ p + 1 = omega arith in
    drop-cons b p 0 within ∙ ap (λ y. y ∷ drop (suc p) b) e ∙ ap (λ k. x ∷ drop k b) s

-- The first of the octets from offset p on is the octet at p.
pub get_drop : (b : List ℕ) (p x : ℕ) (xs : List ℕ) → drop p b ≡ x ∷ xs → slice_get b p ≡ Some x
get_drop [] zero x xs e = cc
get_drop [] (suc p) x xs e = cc
get_drop (y ∷ ys) zero x xs e = cc
get_drop (y ∷ ys) (suc p) x xs e = get_drop ys p x xs e

-- The octets from a label on: its length octet, its octets, and those after it.
pub drop_label : (b : List ℕ) (p n : ℕ) → head_at b p ≡ Ok (Label n) → drop p b ≡ n ∷ (label_at b p n ++ drop (p + 1 + n) b)
drop_label b p n h =
    let k : p + 1 + n - (p + 1) ≡ n = omega arith in
    let whole : label_at b p n ++ drop (p + 1 + n) b ≡ drop (p + 1) b =
    ap (λ m. take m (drop (p + 1) b) ++ drop (p + 1 + n) b) k ∙ ap (λ c. take n (drop (p + 1) b) ++ c) (sym (drop-drop n (p + 1) b)) ∙ take-append-drop n (drop (p + 1) b) in
    drop_at b p n (label_there b p n h) ∙ ap (λ (c : List ℕ). n ∷ c) (sym whole)

-- The octets from the root label on: its zero octet, and those after it.
pub drop_root : (b : List ℕ) (p : ℕ) → head_at b p ≡ Ok Root → drop p b ≡ 0 ∷ drop (p + 1) b
drop_root b p h = drop_at b p 0 (root_there b p h)

-- The octets from offset p on are a label and the uncompressed name after it.
record Labelled (b : List ℕ) (p : ℕ) (label : List ℕ) (name : Labels) : Type 0 where
  begins : head_at b p ≡ Ok (Label (length label))
  octets : label_at b p (length label) ≡ label
  fits : p + 1 + length label ≤ length b
  after : uncompressed name ≡ drop (p + 1 + length label) b

labelled : (b : List ℕ) (p : ℕ) (label : List ℕ) (name : Labels) → IsLabel label → uncompressed (label ∷ name) ≡ drop p b → Labelled b p label name
labelled b p label name l e =
    let n = length label in
    let there : slice_get b p ≡ Some n = get_drop b p n (label ++ uncompressed name) (sym e) in
    let within : p < length b = slice_get_within b p n there in
    let next : drop (p + 1) b ≡ label ++ uncompressed name = sym (drop-drop 1 p b) ∙ ap (drop 1) (sym e) in
    let k : p + 1 + n - (p + 1) ≡ n = omega arith in
    let size : length (drop (p + 1) b) ≡ n + length (uncompressed name) = ap length next ∙ length-append label (uncompressed name) in
    let left : length (drop (p + 1) b) ≡ length b - (p + 1) = length-drop (p + 1) b in
    record {
      begins = label_begins b p n l.some l.short there;
      octets = ap (λ m. take m (drop (p + 1) b)) k ∙ ap (take n) next ∙ take-append_seam label (uncompressed name);
      fits = omega arith;
      after = sym (sym (drop-drop n (p + 1) b) ∙ ap (drop n) next ∙ drop-append_seam label (uncompressed name));
    }

-- The octets from offset p on are the root's zero octet alone.
rooted : (b : List ℕ) (p : ℕ) → uncompressed [] ≡ drop p b → (head_at b p ≡ Ok Root) × (length b ≡ p + 1)
rooted b p e =
    let there : slice_get b p ≡ Some 0 = get_drop b p 0 [] (sym e) in
    let within : p < length b = slice_get_within b p 0 there in
    let one : 1 ≡ length b - p = ap length e ∙ length-drop p b in
    (root_begins b p there, omega arith)

-- The first label of a name is a label, and the remaining labels are a name.
pub name_tail : (label : List ℕ) (name : Labels) → IsName (label ∷ name) → IsLabel label × IsName name
name_tail label name h =
    (All-head IsLabel label name h.labels, record { labels = All-tail IsLabel label name h.labels; short = omega (arith, h.short) })

-- A name is encoded where the remaining octets are its uncompressed octets.
pub name_at_uncompressed : (b : List ℕ) (p : ℕ) (name : Labels) → IsName name → uncompressed name ≡ drop p b → NameAt b p name
name_at_uncompressed b p [] n e = NameAt.root (rooted b p e).0
name_at_uncompressed b p (label ∷ name) n e =
    let t = name_tail label name n in
    let l = labelled b p label name t.0 e in
    let P : List ℕ → Type 0 = λ octets. NameAt b p (octets ∷ name) in
    subst P l.octets (NameAt.label l.begins l.fits (name_at_uncompressed b (p + 1 + length label) name t.1 l.after) (omega (arith, n.short)))

-- The octets from `at` on are an uncompressed name, which is short enough after labels that take all octets before it.
pub record Rest (b : List ℕ) (at : ℕ) : Type 0 where
  pub name : Labels
  pub is_name : IsName name
  pub octets : uncompressed name ≡ drop at b
  pub short : at + name_size name ≤ max_size

-- The progress of a test whether the octets are one whole name: labels take all octets before `at`.
pub record UncompressedUpTo (b : List ℕ) (at : ℕ) : Type 0 where
  pub skips : Skips b 0 at at
  pub rows : (q r : ℕ) → LabelsTo b at at q r → LabelsTo b 0 0 q r
  pub whole : (name : Labels) → NameAt b at name → at + name_size name ≤ max_size → uncompressed name ≡ drop at b → WholeName b
  pub rest : IsUncompressed b → Rest b at

-- No octets are read yet.
pub up_to_none : (b : List ℕ) → UncompressedUpTo b 0
up_to_none b = record {
  skips = skips_none b 0;
  rows = λ q r row. row;
  whole = λ name s small e. ((name, s), e);
  rest = λ u. record { name = u.0; is_name = u.1; octets = u.2; short = omega (arith, u.1.short) };
}

rest_label : (b : List ℕ) (at n at' : ℕ) → Rest b at → head_at b at ≡ Ok (Label n) → at' ≡ at + 1 + n → Rest b at'
rest_label b at n at' r h e = go r.name r.is_name r.octets r.short
  where
    go : (name : Labels) → IsName name → uncompressed name ≡ drop at b → at + name_size name ≤ max_size → Rest b at'
    go [] is o s = let root = (rooted b at o).0 in cc
    go (label ∷ name) is o s =
        let t = name_tail label name is in
        let l = labelled b at label name t.0 o in
        let same : length label ≡ n = cc (l.begins, h) in
        let Q : ℕ → Type 0 = λ k. uncompressed name ≡ drop k b in
        let offset : at + 1 + length label ≡ at' = omega arith in
        record { name = name; is_name = t.1; octets = subst Q offset l.after; short = omega arith }

-- The test continues after a label.
pub up_to_label : (b : List ℕ) (at n at' : ℕ) → UncompressedUpTo b at → Begins b at at (Label n) → at' ≡ at + 1 + n → UncompressedUpTo b at'
up_to_label b at n at' s h e =
    let fits : at + 1 + n ≤ length b = h.fits n refl in
    let same : length (label_at b at n) ≡ n = length_label b at n fits in
    let short : at + n + 1 ≤ max_size = h.short n refl in
    let size : at' ≡ at + n + 1 = omega arith in
    record {
      rows = λ q r row. s.rows q r (LabelsTo.label h.there short fits (subst (λ k. LabelsTo b k (at + n + 1) q r) e (subst (λ k. LabelsTo b at' k q r) size row)));
      skips = skips_label b 0 at at n at' at' s.skips h (omega arith) e;
      whole = λ name m small octets.
          let after : NameAt b (at + 1 + n) name = subst (λ k. NameAt b k name) e m in
          let size : name_size (label_at b at n ∷ name) ≡ n + 1 + name_size name = name_size-label_at b at n name fits in
          s.whole (label_at b at n ∷ name) (NameAt.label h.there fits after (omega arith)) (omega arith)
          (ap (λ k. k ∷ (label_at b at n ++ uncompressed name)) same ∙ ap (λ (c : List ℕ). n ∷ (label_at b at n ++ c)) (octets ∙ ap (λ k. drop k b) e) ∙ sym (drop_label b at n h.there));
      rest = λ u. rest_label b at n at' (s.rest u) h.there e;
    }

-- Labels take the octets before `at`.
pub up_to_labels : (b : List ℕ) (at : ℕ) → UncompressedUpTo b at → LabelsTo b 0 0 at at
up_to_labels b at s = s.rows at at LabelsTo.none

-- If the octets end with the root label, they are one whole name.
pub up_to_root : (b : List ℕ) (at : ℕ) → UncompressedUpTo b at → head_at b at ≡ Ok Root → length b ≡ at + 1 → WholeName b
up_to_root b at s h e =
    let none : length (drop (at + 1) b) ≡ 0 = length-drop (at + 1) b ∙ omega arith in
    let small = s.skips.within in
    s.whole [] (NameAt.root h) (omega arith) (sym (drop_at b at 0 (root_there b at h) ∙ ap (λ (c : List ℕ). 0 ∷ c) (empty (drop (at + 1) b) none)))
  where
    empty : (xs : List ℕ) → length xs ≡ 0 → xs ≡ []
    empty [] h = refl
    empty (x ∷ xs) h = absurd (omega arith)

-- If octets follow the root label, they aren't one.
pub up_to_more : (b : List ℕ) (at : ℕ) → UncompressedUpTo b at → head_at b at ≡ Ok Root → at + 1 < length b → IsUncompressed b → ⊥
up_to_more b at s h more u = go (s.rest u).name (s.rest u).is_name (s.rest u).octets
  where
    go : (name : Labels) → IsName name → uncompressed name ≡ drop at b → ⊥
    go [] is o = let r = rooted b at o in omega (arith, r.1)
    go (label ∷ name) is o = let l = labelled b at label name (name_tail label name is).0 o in cc (l.begins, h)

-- If there is a pointer, they aren't one.
pub up_to_pointer : (b : List ℕ) (at t : ℕ) → UncompressedUpTo b at → head_at b at ≡ Ok (Pointer t) → IsUncompressed b → ⊥
up_to_pointer b at t s h u = go (s.rest u).name (s.rest u).is_name (s.rest u).octets
  where
    go : (name : Labels) → IsName name → uncompressed name ≡ drop at b → ⊥
    go [] is o = let r = rooted b at o in cc (r.0, h)
    go (label ∷ name) is o = let l = labelled b at label name (name_tail label name is).0 o in cc (l.begins, h)

-- If skipping fails, they aren't one.
pub up_to_fault : (b : List ℕ) (at : ℕ) (f : Fault) → UncompressedUpTo b at → SkipFaulty b at at f → IsUncompressed b → ⊥
up_to_fault b at f s h u =
    let r = s.rest u in
    not_both b (skip_fault b h) r.name (name_at_uncompressed b at r.name r.is_name r.octets) r.short

-- A zero octet is the root name.
pub root_whole : WholeName (0 ∷ [])
root_whole = let e : head_at (0 ∷ []) 0 ≡ Ok Root = root_begins (0 ∷ []) 0 refl in (([], NameAt.root e), refl)

-- The name that is one zero octet is the root.
pub whole_is_root : (name : WholeName (0 ∷ [])) → name.0.0 ≡ []
unfolding root_whole
whole_is_root name = ap (λ (w : WholeName (0 ∷ [])). w.0.0) (WholeName-prop (0 ∷ []) name root_whole)

-- The progress of counting the labels of an uncompressed name: `count` labels are before `at`, and the octets from `at` on are the remaining labels.
pub record Counted (b : List ℕ) (at count : ℕ) : Type 0 where
  pub others : Labels
  pub is_name : IsName others
  pub octets : uncompressed others ≡ drop at b
  pub few : count ≤ at
  pub all : (name : Labels) → NameAt b 0 name → length name ≡ count + length others

-- No label is counted yet.
pub counted_none : (b : List ℕ) → WholeName b → Counted b 0 0
counted_none b whole = record {
  others = whole.0.0;
  is_name = encoded_name whole.0.1;
  octets = whole.1;
  few = omega arith;
  all = λ name s. let e = ap length (same_name b s whole.0.1) in omega (arith, e);
}

-- The root label or a label begins at `at`.
pub counted_begins : (b : List ℕ) (at count : ℕ) → Counted b at count → IsOk (head_at b at)
counted_begins b at count c =
    let there : EncodedName b at = (c.others, name_at_uncompressed b at c.others c.is_name c.octets) in name_begins b there

-- The first octet after an offset is the octet at the offset.
pub first_octet : (b : List ℕ) (p x : ℕ) (xs : List ℕ) → x ∷ xs ≡ drop p b → get_or b p 0 ≡ x
first_octet b p x xs e = get_or_from_slice_get b p x 0 (get_drop b p x xs (sym e))

-- At the root label, all labels are counted.
pub counted_root : (b : List ℕ) (at count n : ℕ) → Counted b at count → n ≡ get_or b at 0 → n ≡ 0 → (name : Labels) → NameAt b 0 name → count ≡ length name
counted_root b at count n c read none name s = go c.others c.is_name c.octets (c.all name s)
  where
    go : (others : Labels) → IsName others → uncompressed others ≡ drop at b → length name ≡ count + length others → count ≡ length name
    go [] is o e = omega (arith, e)
    go (label ∷ others) is o e =
        let l = (name_tail label others is).0 in
        let first = first_octet b at (length label) (label ++ uncompressed others) o in
        absurd (omega (arith, l.some, first))

-- After a label, one more is counted.
pub counted_label : (b : List ℕ) (at count n at' : ℕ) → Counted b at count → n ≡ get_or b at 0 → n ≢ 0 → at' ≡ at + 1 + n → Counted b at' (count + 1)
counted_label b at count n at' c read some offset = go c.others c.is_name c.octets c.all
  where
    go : (others : Labels) → IsName others → uncompressed others ≡ drop at b → ((name : Labels) → NameAt b 0 name → length name ≡ count + length others)
        → Counted b at' (count + 1)
    go [] is o all = absurd (some (read ∙ first_octet b at 0 [] o))
    go (label ∷ others) is o all =
        let t = name_tail label others is in
        let l = labelled b at label others t.0 o in
        let first = first_octet b at (length label) (label ++ uncompressed others) o in
        let to : at + 1 + length label ≡ at' = omega (arith, first) in
        let Q : ℕ → Type 0 = λ p. uncompressed others ≡ drop p b in
        record {
          others = others;
          is_name = t.1;
          octets = subst Q to l.after;
          few = omega (arith, c.few);
          all = λ name s. let e = all name s in omega (arith, e);
        }
