-- A name is encoded in all octets that agree on those that it uses.
use Rattle.std.proofs.Common.{◌≡◌, ℕ, zero, suc, ◌+◌, ◌-◌, ◌<◌, ◌≤◌, ◌⊎◌, inl, inr, List, [], ◌∷◌, ◌++◌, take, drop, length}
use Rattle.std.proofs.Common.{length-append, length-take, length-drop, append_assoc, arith, ap, sym, ◌∙◌, refl, subst}
use Rattle.std.specs.Prelude.{Option, Some, None, Ok, slice_get}
use Rattle.std.specs.FinMap.{get}
use Rattle.dns_name.specs.Names.{Labels, name_size, max_size, head_at, NameAt, label_at}
use Rattle.dns_wire.specs.Encoders.{CompressionTable, TableEntry, IsAtOrAfter}
use Rattle.dns_wire.specs.TargetLaws.{NameAtWithin, Agree, NamesStayWhenOverwritten, NamesAreAtOrAfter}
use Rattle.dns_wire.specs.TargetLaws.NameAtWithin.{root, label, pointer}
use Rattle.dns_octets.specs.Octets.{overwritten}
use Rattle.dns_wire.specs.Targets.{Compressed, IsTableOf}
use Rattle.dns_name.specs.declared.head.Head.TheVariants.{Root, Label, Pointer}
use Rattle.dns_name.specs.Unique.{label_head}
use Rattle.dns_name.proofs.theory.HeadLemmas.{label_there, root_there, root_begins, label_begins, same_head, root_within, pointer_within}
use Rattle.dns_wire.proofs.theory.CompressedNames as octets_at
use Rattle.dns_wire.proofs.theory.CompressedNames.{compressed_long, kept_compressed}

-- An encoded name uses only octets of its content.
pub name_at_within : {b : List ℕ} {p : ℕ} {name : Labels} → NameAt b p name → NameAtWithin b 0 (length b) p name
name_at_within {b = b} (NameAt.root {p = p} h) = let w = root_within b p h in root (omega arith) (omega arith) h
name_at_within (NameAt.label h w x z) = label (omega arith) w h (name_at_within x) z
name_at_within {b = b} (NameAt.pointer {p = p} {t = t} h back x) =
    let w = pointer_within b p t h in
    pointer (omega arith) (omega arith) h back (name_at_within x)

-- A name that uses only octets in lo..hi is encoded at its offset.
pub name_of_within : {b : List ℕ} {lo hi p : ℕ} {name : Labels} → hi ≤ length b → NameAtWithin b lo hi p name → NameAt b p name
name_of_within l (root low high h) = NameAt.root h
name_of_within l (label {p = p} {n = n} low high h x z) = NameAt.label h (omega arith) (name_of_within l x) z
name_of_within l (pointer low high h back x) = NameAt.pointer h back (name_of_within l x)

-- An optional octet before other octets.
abbrev pub before_others : Option ℕ → List ℕ → List ℕ
before_others None xs = xs
before_others (Some x) xs = x ∷ xs

-- The first of n + 1 octets, and those after it.
pub take_get : (n p : ℕ) (b : List ℕ) → take (suc n) (drop p b) ≡ before_others (slice_get b p) (take n (drop (suc p) b))
take_get zero zero [] = refl
take_get zero (suc p) [] = refl
take_get (suc n) zero [] = refl
take_get (suc n) (suc p) [] = refl
take_get n zero (x ∷ b) = refl
take_get n (suc p) (x ∷ b) = take_get n p b

-- Lists that agree at n consecutive offsets have the same octets there.
pub same_part : (b c : List ℕ) (n p : ℕ) → ((k : ℕ) → p ≤ k → k < p + n → slice_get b k ≡ slice_get c k) → take n (drop p b) ≡ take n (drop p c)
same_part b c zero p h = refl
same_part b c (suc n) p h =
    take_get n p b
    ∙ (λ i. before_others (h p (omega arith) (omega arith) i) (same_part b c n (suc p) (λ k l m. h k (omega arith) (omega arith)) i))
    ∙ sym (take_get n p c)

-- Octets that agree have the same labels.
pub same_label : (b c : List ℕ) (lo hi p n : ℕ) → Agree b c lo hi → lo ≤ p → p + 1 + n ≤ hi → label_at b p n ≡ label_at c p n
same_label b c lo hi p n a low high =
    let e : p + 1 + n - (p + 1) ≡ n = omega arith in
    ap (λ k. take k (drop (p + 1) b)) e ∙ same_part b c n (p + 1) (λ k l m. a.same k (omega arith) (omega arith)) ∙ ap (λ k. take k (drop (p + 1) c)) (sym e)

-- Octets that agree begin alike: the root label, a label or a pointer.
pub agree_root : {b c : List ℕ} {lo hi p : ℕ} → Agree b c lo hi → lo ≤ p → p + 1 ≤ hi → head_at b p ≡ Ok Root → head_at c p ≡ Ok Root
agree_root {b = b} {c = c} {p = p} a low high h = root_begins c p (sym (a.same p low (omega arith)) ∙ root_there b p h)

-- Octets that agree begin with the same label.
pub agree_label : {b c : List ℕ} {lo hi p n : ℕ} → Agree b c lo hi → lo ≤ p → p + 1 ≤ hi → head_at b p ≡ Ok (Label n) → head_at c p ≡ Ok (Label n)
agree_label {b = b} {c = c} {p = p} {n = n} a low high h =
    let l = label_head b p n h in
    label_begins c p n (omega (arith, l.some)) (omega (arith, l.short)) (sym (a.same p low (omega arith)) ∙ label_there b p n h)

-- Octets that agree begin with the same pointer.
pub agree_pointer : {b c : List ℕ} {lo hi p t : ℕ} → Agree b c lo hi → lo ≤ p → p + 2 ≤ hi → head_at b p ≡ Ok (Pointer t) → head_at c p ≡ Ok (Pointer t)
agree_pointer {b = b} {c = c} {p = p} {t = t} a low high h = sym (same_head b c p (a.same p low (omega arith)) (a.same (p + 1) (omega arith) (omega arith))) ∙ h

-- A name is encoded in all octets that agree on those that it uses.
pub agreed : {b c : List ℕ} {lo hi p : ℕ} {name : Labels} → Agree b c lo hi → NameAtWithin b lo hi p name → NameAtWithin c lo hi p name
agreed a (root low high h) = root low high (agree_root a low high h)
agreed {b = b} {c = c} {lo = lo} {hi = hi} a (label {p = p} {n = n} {name = name} low high h x z) =
    let P : List ℕ → Type 0 = λ first. NameAtWithin c lo hi p (first ∷ name) in
    subst P (sym (same_label b c lo hi p n a low high)) (label low high (agree_label a low (omega arith) h) (agreed a x) z)
agreed a (pointer low high h back x) = pointer low high (agree_pointer a low high h) back (agreed a x)

-- Single octets of longer contents and of parts of a content.
pub get_append : (b c : List ℕ) (k : ℕ) → k < length b → slice_get b k ≡ slice_get (b ++ c) k
get_append [] c k h = absurd (omega arith)
get_append (x ∷ b) c zero h = refl
get_append (x ∷ b) c (suc k) h = get_append b c k (omega arith)

-- An octet before the cut is the same octet after it.
pub get_take : (b : List ℕ) (e k : ℕ) → k < e → slice_get (take e b) k ≡ slice_get b k
get_take [] zero k h = refl
get_take [] (suc e) k h = refl
get_take (x ∷ b) zero k h = absurd (omega arith)
get_take (x ∷ b) (suc e) zero h = refl
get_take (x ∷ b) (suc e) (suc k) h = get_take b e k (omega arith)

-- An octet after a first part is the octet of the second part.
pub get_after : (xs ys : List ℕ) (k : ℕ) → slice_get (xs ++ ys) (length xs + k) ≡ slice_get ys k
get_after [] ys k = ap (slice_get ys) (let e : 0 + k ≡ k = omega arith in e)
get_after (x ∷ xs) ys k = ap (slice_get (x ∷ (xs ++ ys))) (let e : suc (length xs) + k ≡ suc (length xs + k) = omega arith in e) ∙ get_after xs ys k

-- An octet of what is left after dropping some is the octet that many places further.
pub get_dropped : (b : List ℕ) (n k : ℕ) → slice_get (drop n b) k ≡ slice_get b (n + k)
get_dropped b zero k = ap (slice_get b) (let e : k ≡ 0 + k = omega arith in e)
get_dropped [] (suc n) k = refl
get_dropped (x ∷ b) (suc n) k = get_dropped b n k ∙ ap (slice_get (x ∷ b)) (let e : suc (n + k) ≡ suc n + k = omega arith in e)

-- A longer content agrees with the shorter one.
pub agree_append : (b c : List ℕ) → Agree b (b ++ c) 0 (length b)
agree_append b c = record { long = omega (arith, length-append b c); same = λ k l h. get_append b c k h }

-- An encoded name is encoded in every longer content.
pub name_at_append : {b : List ℕ} {p : ℕ} {name : Labels} (c : List ℕ) → NameAt b p name → NameAt (b ++ c) p name
name_at_append {b = b} c s = name_of_within (omega (arith, length-append b c)) (agreed (agree_append b c) (name_at_within s))

-- Octets agree before overwritten ones.
agree_front : (b over : List ℕ) (offset lo hi : ℕ) → offset + length over ≤ length b → hi ≤ offset → Agree b (take offset b ++ (over ++ drop (offset + length over) b)) lo hi
agree_front b over offset lo hi fits l =
    let n = length-take offset b in
    let m = length-append (take offset b) (over ++ drop (offset + length over) b) in
    record {
      long = omega arith;
      same = λ k low h. sym (get_take b offset k (omega arith)) ∙ get_append (take offset b) _ k (omega arith);
    }

-- Octets agree after overwritten ones.
agree_back : (b over : List ℕ) (offset lo hi : ℕ) → offset + length over ≤ length b → offset + length over ≤ lo → hi ≤ length b
    → Agree b (take offset b ++ (over ++ drop (offset + length over) b)) lo hi
agree_back b over offset lo hi fits l small =
    let end = offset + length over in
    let after = drop end b in
    let n = length-take offset b in
    let m = length-append (take offset b) (over ++ after) in
    let m' = length-append over after in
    let d = length-drop end b in
    record {
      long = omega arith;
      same = λ k low h.
          let j = k - end in
          let e : k ≡ length (take offset b) + (length over + j) = omega arith in
          let f : end + j ≡ k = omega arith in
          sym (ap (slice_get (take offset b ++ (over ++ after))) e ∙ get_after (take offset b) (over ++ after) (length over + j) ∙ get_after over after j ∙ get_dropped b end j ∙ ap (slice_get b) f);
    }

-- Octets agree before or after overwritten ones.
agree_parts : (b over : List ℕ) (offset lo hi : ℕ) → offset + length over ≤ length b → hi ≤ length b → (offset + length over ≤ lo) ⊎ (hi ≤ offset)
    → Agree b (take offset b ++ (over ++ drop (offset + length over) b)) lo hi
agree_parts b over offset lo hi fits l (inl w) = agree_back b over offset lo hi fits w l
agree_parts b over offset lo hi fits l (inr w) = agree_front b over offset lo hi fits w

-- The same of the octets as `overwritten` gives them.
pub agree_overwritten : (b over : List ℕ) (offset lo hi : ℕ) → offset + length over ≤ length b → hi ≤ length b → (offset + length over ≤ lo) ⊎ (hi ≤ offset)
    → Agree b (overwritten b offset over) lo hi
agree_overwritten b over offset lo hi fits l w =
    let e : take offset b ++ (over ++ drop (offset + length over) b) ≡ overwritten b offset over = sym (append_assoc (take offset b) over (drop (offset + length over) b)) in
    subst (λ (c : List ℕ). Agree b c lo hi) e (agree_parts b over offset lo hi fits l w)

-- A name is still encoded after octets that it doesn't use are overwritten.
pub names_stay_when_overwritten : NamesStayWhenOverwritten
names_stay_when_overwritten t offset over lo hi p name fits l w s = agreed (agree_overwritten t.octets over offset lo hi fits l w) s

-- A name that uses octets in lo..hi uses octets in lo..top, if hi ≤ top.
pub wider_in : {b : List ℕ} {lo hi top p : ℕ} {name : Labels} → hi ≤ top → NameAtWithin b lo hi p name → NameAtWithin b lo top p name
wider_in l (root low high h) = root low (omega arith) h
wider_in l (label {p = p} {n = n} low high h x z) = label low (omega arith) h (wider_in l x) z
wider_in l (pointer low high h back x) = pointer low (omega arith) h back (wider_in l x)

-- A name encoded up to q uses no octet before lo, if the same holds for each entry of the table whose name ends before q.
in_if : {m : CompressionTable} {b : List ℕ} {lo q : ℕ} → IsTableOf b m → ((s : Labels) (x : TableEntry) → get m s ≡ Some x → x.end < q → NameAtWithin b lo x.end x.offset s)
    → {p : ℕ} {name : Labels} → lo ≤ p → name_size name ≤ max_size → Compressed m b q p name → NameAtWithin b lo q p name
in_if r ih low short (Compressed.root h e) = root low (omega arith) (octets_at.root_at h)
in_if {b = b} {lo = lo} {q = q} r ih low short (Compressed.label {p = p} {first = first} {rest = rest} l h x) =
    let w = compressed_long x in
    let P : List ℕ → Type 0 = λ first. NameAtWithin b lo q p (first ∷ rest) in
    subst P (octets_at.label_octets h) (label low (omega arith) (octets_at.label_begins l h) (in_if r ih (omega arith) (omega arith) x) (omega arith))
in_if r ih low short (Compressed.pointer {p = p} {name = name} {x = x} e before h is) =
    let k = r.each name x e in
    let w = compressed_long (kept_compressed name x k) in
    pointer low (omega arith) (octets_at.pointer_at x.offset k.in_range h) (omega (arith, w.0)) (wider_in (omega arith) (ih name x e (omega arith)))

-- By induction on the end.
in_below : {m : CompressionTable} {b : List ℕ} {lo : ℕ} → IsTableOf b m → IsAtOrAfter m lo → (k q p : ℕ) (name : Labels) → q < k → lo ≤ p → name_size name ≤ max_size
    → Compressed m b q p name → NameAtWithin b lo q p name
in_below r all zero q p name h low short s = absurd (omega arith)
in_below r all (suc k) q p name h low short s =
    in_if r (λ t x e less. let kept = r.each t x e in in_below r all k x.end x.offset t (omega arith) (all.each t x e) kept.short (kept_compressed t x kept)) low short s

-- If all entries of the table are at or after an offset, their suffixes use no octet before it.
pub names_are_at_or_after : NamesAreAtOrAfter
names_are_at_or_after b m lo s x r all e =
    let kept = r.each s x e in
    in_below r all (x.end + 1) x.end x.offset s (omega arith) (all.each s x e) kept.short (kept_compressed s x kept)
