-- Encoded names remain encoded, and are read back.
use Rattle.std.proofs.Common.{◌≡◌, ℕ, ◌+◌, ◌-◌, ◌/◌, ◌%◌, ◌<◌, ◌≤◌, List, [], ◌∷◌, ◌++◌, take, drop, length, length-append}
use Rattle.std.proofs.Common.{length-take, length-drop, append-nil, append_assoc, arith, ap, sym, ◌∙◌, refl, zero, suc, inl, inr}
use Rattle.std.proofs.Common.{subst}
use Rattle.std.specs.Prelude.{Some, Ok, slice_get, drop}
use Rattle.std.proofs.lemmas.List.{drop-append-le, take-append-drop, nil_from_length, append-nil}
use Rattle.std.proofs.Math.Seq.{take-append_seam, drop-append_seam, take-append-add}
use Rattle.std.specs.FinMap.{get}
use Rattle.dns_octets.specs.Octets.{overwritten}
use Rattle.dns_name.specs.Names.{IsLabel, framed, head_at, label_at, Labels, name_size, max_size, NameAt, NameContinues, NameEndsAt}
use Rattle.dns_name.specs.declared.head.Head.TheVariants.{Root, Label, Pointer}
use Rattle.dns_name.proofs.theory.UncompressedNames.{get_drop}
use Rattle.dns_wire.specs.Encoders.{pointer as pointer_octets, CompressionTable, TableEntry, cut, IsClear}
use Rattle.dns_wire.specs.Targets.{At, Compressed, Labelled, IsTableEntry, IsTableOf}
use Rattle.dns_wire.specs.Targets.Compressed.{root, label, pointer}
use Rattle.dns_wire.proofs.theory.CompressionTables.{get_in_cut, get_of_cut}
use Rattle.dns_name.proofs.theory.HeadLemmas as heads

-- Octets at an offset.

-- The octets at an offset, with those before and after them.
record Split (b : List ℕ) (p : ℕ) (xs : List ℕ) : Type 0 where
  before : List ℕ
  after : List ℕ
  whole : b ≡ before ++ (xs ++ after)
  offset : length before ≡ p

-- `At` gives `Split`.
split : {b : List ℕ} {p : ℕ} {xs : List ℕ} → At b p xs → Split b p xs
split {b = b} {p = p} {xs = xs} h =
    let n = length xs in
    let e : p + n - p ≡ n = omega arith in
    let front : take n (drop p b) ≡ xs = ap (λ k. take k (drop p b)) (sym e) ∙ h.same in
    let later : drop p b ≡ xs ++ drop n (drop p b) = sym (take-append-drop n (drop p b)) ∙ ap (λ (c : List ℕ). c ++ drop n (drop p b)) front in
    let w = h.within in
    record {
      before = take p b;
      after = drop n (drop p b);
      whole = sym (take-append-drop p b) ∙ ap (λ (c : List ℕ). take p b ++ c) later;
      offset = length-take p b ∙ omega arith;
    }

-- The octets from the offset on.
split_dropped : {b : List ℕ} {p : ℕ} {xs : List ℕ} (h : Split b p xs) → drop p b ≡ xs ++ h.after
split_dropped {p = p} {xs = xs} h =
    ap (drop p) h.whole ∙ ap (λ n. drop n (h.before ++ (xs ++ h.after))) (sym h.offset) ∙ drop-append_seam h.before (xs ++ h.after)

-- `Split` gives `At`.
join : {b : List ℕ} {p : ℕ} {xs : List ℕ} → Split b p xs → At b p xs
join {b = b} {p = p} {xs = xs} h =
    let e = ap length h.whole ∙ length-append h.before (xs ++ h.after) in
    let f = length-append xs h.after in
    let n : p + length xs - p ≡ length xs = omega arith in
    record {
      within = omega (arith, h.offset);
      same = ap (λ n. take n (drop p b)) n ∙ ap (take (length xs)) (split_dropped h) ∙ take-append_seam xs h.after;
    }

-- Octets appended to others are at their end.
pub at_end : (b xs : List ℕ) → At (b ++ xs) (length b) xs
at_end b xs = join (record { before = b; after = []; whole = ap (λ (c : List ℕ). b ++ c) (sym (append-nil xs)); offset = refl })

-- Octets at an offset are there in every longer content.
pub at_append : {b : List ℕ} {p : ℕ} {xs : List ℕ} (c : List ℕ) → At b p xs → At (b ++ c) p xs
at_append c h =
    let s = split h in
    join (record { before = s.before; after = s.after ++ c; whole = ap (λ (b : List ℕ). b ++ c) s.whole ∙ simp append_assoc; offset = s.offset })

-- The first of two lists of octets is at the offset.
pub at_first : {b : List ℕ} {p : ℕ} {xs : List ℕ} (ys : List ℕ) → At b p (xs ++ ys) → At b p xs
at_first {xs = xs} ys h =
    let s = split h in
    join (record { before = s.before; after = ys ++ s.after; whole = s.whole ∙ ap (λ (c : List ℕ). s.before ++ c) (append_assoc xs ys s.after); offset = s.offset })

-- The second is after the first.
pub at_second : {b : List ℕ} {p : ℕ} (xs : List ℕ) {ys : List ℕ} → At b p (xs ++ ys) → At b (p + length xs) ys
at_second xs {ys} h =
    let s = split h in
    join (record { before = s.before ++ xs; after = s.after; whole = s.whole ∙ simp append_assoc; offset = length-append s.before xs ∙ ap (λ n. n + length xs) s.offset })

-- The same at an equal offset.
pub at_offset : {b : List ℕ} {p q : ℕ} {xs : List ℕ} → p ≡ q → At b p xs → At b q xs
at_offset e h = let s = split h in join (record { before = s.before; after = s.after; whole = s.whole; offset = s.offset ∙ e })

take_three : (len : ℕ) (xs ys zs : List ℕ) → length xs + length ys ≤ len → take len (xs ++ (ys ++ zs)) ≡ xs ++ (ys ++ take (len - length xs - length ys) zs)
take_three len xs ys zs h =
    let e : len ≡ length xs + (length ys + (len - length xs - length ys)) = omega arith in
    ap (λ n. take n (xs ++ (ys ++ zs))) e ∙ take-append-add xs (ys ++ zs) (length ys + (len - length xs - length ys))
    ∙ ap (λ (c : List ℕ). xs ++ c) (take-append-add ys zs (len - length xs - length ys))

-- Octets within the first `len` octets are there after truncation.
pub at_take : {b : List ℕ} {p : ℕ} {xs : List ℕ} (len : ℕ) → p + length xs ≤ len → At b p xs → At (take len b) p xs
at_take {xs = xs} len fits h =
    let s = split h in
    join (record {
      before = s.before;
      after = take (len - length s.before - length xs) s.after;
      whole = ap (take len) s.whole ∙ take_three len s.before xs s.after (omega (arith, s.offset));
      offset = s.offset;
    })

-- Octets before overwritten ones are unchanged.
pub at_before : {b : List ℕ} {p : ℕ} {xs : List ℕ} (over : List ℕ) (offset : ℕ) → p + length xs ≤ offset → At b p xs → At (overwritten b offset over) p xs
at_before {b = b} over offset front h = at_append (drop (offset + length over) b) (at_append over (at_take offset front h))

-- Octets after overwritten ones are unchanged.
pub at_after : {b : List ℕ} {p : ℕ} {xs : List ℕ} (over : List ℕ) (offset : ℕ) → offset + length over ≤ p → At b p xs → At (overwritten b offset over) p xs
at_after {b = b} {p = p} {xs = xs} over offset back h =
    let s = split h in
    let n = offset + length over in
    let low : n ≤ length s.before = omega (arith, s.offset) in
    let inside = h.within in
    let dropped : drop n b ≡ drop n s.before ++ (xs ++ s.after) = ap (drop n) s.whole ∙ drop-append-le n s.before (xs ++ s.after) low in
    join (record {
      before = take offset b ++ (over ++ drop n s.before);
      after = s.after;
      whole = ap (λ (c : List ℕ). take offset b ++ over ++ c) dropped ∙ simp append_assoc;
      offset = rw (length-append, length-append, length-take, length-drop) (omega (arith, s.offset));
    })

-- The first of the octets is at the offset.
at_get : {b : List ℕ} {p x : ℕ} {xs : List ℕ} → At b p (x ∷ xs) → slice_get b p ≡ Some x
at_get {b = b} {p = p} {x = x} {xs = xs} h = let s = split h in get_drop b p x (xs ++ s.after) (split_dropped s)

-- The root label begins where a zero octet is.
pub root_at : {b : List ℕ} {p : ℕ} → At b p (0 ∷ []) → head_at b p ≡ Ok Root
root_at {b = b} {p = p} h = heads.root_begins b p (at_get h)

-- A label begins where its length octet and its octets are.
pub label_begins : {b : List ℕ} {p : ℕ} {first : List ℕ} → IsLabel first → At b p (framed first) → head_at b p ≡ Ok (Label (length first))
label_begins {b = b} {p = p} {first = first} l h = heads.label_begins b p (length first) l.some l.short (at_get h)

-- A pointer begins where its two octets are.
pub pointer_at : {b : List ℕ} {p : ℕ} (t : ℕ) → t < 16384 → At b p (pointer_octets t) → head_at b p ≡ Ok (Pointer t)
pointer_at {b = b} {p = p} t small h = heads.pointer_begins b p t small (at_get h) (at_get (at_second ((192 + t / 256) ∷ []) {ys = t % 256 ∷ []} h))

-- The octets after the length octet are those of the label.
pub label_octets : {b : List ℕ} {p : ℕ} {first : List ℕ} → At b p (framed first) → label_at b p (length first) ≡ first
label_octets {first = first} h = (at_second (length first ∷ []) {ys = first} h).same

-- The octets of a label, with others after it.
pub label_part : {b : List ℕ} {p : ℕ} (first later : List ℕ) → At b p (framed first ++ later) → At b p (framed first)
label_part first later h = at_first {xs = framed first} later h

-- The octets after a label.
pub after_label : {b : List ℕ} {p : ℕ} (first later : List ℕ) → At b p (framed first ++ later) → At b (p + 1 + length first) later
after_label first later h = at_offset (omega arith) (at_second (framed first) {ys = later} h)

-- An encoded name takes at least one octet, and ends within the content.
pub compressed_long : {m : CompressionTable} {b : List ℕ} {q p : ℕ} {name : Labels} → Compressed m b q p name → (p < q) × (q ≤ length b)
compressed_long (root h e) = let w = h.within in (omega arith, omega arith)
compressed_long (label {first = first} l h x) = let w = compressed_long x in (omega (arith, w.0), w.1)
compressed_long (pointer g before h e) = let w = h.within in (omega arith, omega arith)

-- A name encoded between two offsets is encoded in other octets that agree there, with another table that has the entries of all names ending before the second offset.
pub moved : (m n : CompressionTable) (b c : List ℕ) (lo q : ℕ)
    → ((p : ℕ) (xs : List ℕ) → lo ≤ p → p + length xs ≤ q → At b p xs → At c p xs)
    → ((s : Labels) (x : TableEntry) → get m s ≡ Some x → x.end < q → get n s ≡ Some x)
    → {p : ℕ} {name : Labels} → lo ≤ p → Compressed m b q p name → Compressed n c q p name
moved m n b c lo q f g low (root {p = p} h e) = root (f p (0 ∷ []) low (omega arith) h) e
moved m n b c lo q f g low (label {p = p} {first = first} l h x) =
    let w = compressed_long x in
    label l (f p (framed first) low (omega (arith, w.0)) h) (moved m n b c lo q f g (omega arith) x)
moved m n b c lo q f g low (pointer {p = p} {name = name} {x = x} e before h is) =
    pointer (g name x e (omega arith)) before (f p (pointer_octets x.offset) low (omega arith) h) is

-- The same for a name that begins with a label.
labelled_moved : (m n : CompressionTable) (b c : List ℕ) (lo q : ℕ)
    → ((p : ℕ) (xs : List ℕ) → lo ≤ p → p + length xs ≤ q → At b p xs → At c p xs)
    → ((s : Labels) (x : TableEntry) → get m s ≡ Some x → x.end < q → get n s ≡ Some x)
    → (p : ℕ) (name : Labels) → lo ≤ p → Labelled m b q p name → Labelled n c q p name
labelled_moved m n b c lo q f g p [] low h = absurd h
labelled_moved m n b c lo q f g p (first ∷ rest) low h =
    let w = compressed_long h.2 in
    (h.0, f p (framed first) low (omega (arith, w.0)) h.1, moved m n b c lo q f g (omega arith) h.2)

-- A name that is encoded and begins with a label is encoded.
pub labelled_compressed : {m : CompressionTable} {b : List ℕ} {q : ℕ} (p : ℕ) (name : Labels) → Labelled m b q p name → Compressed m b q p name
labelled_compressed p [] h = absurd h
labelled_compressed p (first ∷ rest) h = label h.0 h.1 h.2

-- A suffix with a sound entry is encoded at its offset, up to the end of its name.
pub kept_compressed : {m : CompressionTable} {b : List ℕ} (s : Labels) (x : TableEntry) → IsTableEntry b m s x → Compressed m b x.end x.offset s
kept_compressed s x k = labelled_compressed x.offset s k.compressed

-- The same as `moved` for a sound entry.
pub kept_moved : (m n : CompressionTable) (b c : List ℕ) (s : Labels) (x : TableEntry)
    → ((p : ℕ) (xs : List ℕ) → x.offset ≤ p → p + length xs ≤ x.end → At b p xs → At c p xs)
    → ((s : Labels) (y : TableEntry) → get m s ≡ Some y → y.end < x.end → get n s ≡ Some y)
    → IsTableEntry b m s x → IsTableEntry c n s x
kept_moved m n b c s x f g k = record { in_range = k.in_range; short = k.short; compressed = labelled_moved m n b c x.offset x.end f g x.offset s (omega arith) k.compressed }

-- An encoded name is encoded in more octets, with a larger table.
pub compressed_more : {m : CompressionTable} {b : List ℕ} {q p : ℕ} {name : Labels} (n : CompressionTable) (c : List ℕ)
    → ((s : Labels) (x : TableEntry) → get m s ≡ Some x → get n s ≡ Some x) → Compressed m b q p name → Compressed n (b ++ c) q p name
compressed_more {m = m} {b = b} {q = q} n c g s = moved m n b (b ++ c) 0 q (λ p xs low fits h. at_append c h) (λ t x e less. g t x e) (omega arith) s

-- A sound entry is sound there.
pub kept_more : {m : CompressionTable} {b : List ℕ} (n : CompressionTable) (c : List ℕ) (s : Labels) (x : TableEntry)
    → ((s : Labels) (x : TableEntry) → get m s ≡ Some x → get n s ≡ Some x) → IsTableEntry b m s x → IsTableEntry (b ++ c) n s x
kept_more {m = m} {b = b} n c s x g k = kept_moved m n b (b ++ c) s x (λ p xs low fits h. at_append c h) (λ t y e less. g t y e) k

-- A written name (`Compressed`) is encoded in the sense of `NameAt`, if so is each entry of the table whose name ends before q.
name_at_if : {m : CompressionTable} {b : List ℕ} {q : ℕ} → IsTableOf b m → ((s : Labels) (x : TableEntry) → get m s ≡ Some x → x.end < q → NameAt b x.offset s)
    → {p : ℕ} {name : Labels} → name_size name ≤ max_size → Compressed m b q p name → NameAt b p name
name_at_if r ih short (root h e) = NameAt.root (root_at h)
name_at_if {b = b} {q = q} r ih short (label {p = p} {first = first} {rest = rest} l h x) =
    let w = compressed_long x in
    let P : List ℕ → Type 0 = λ first. NameAt b p (first ∷ rest) in
    subst P (label_octets h) (NameAt.label (label_begins l h) (omega arith) (name_at_if r ih (omega arith) x) (omega arith))
name_at_if r ih short (pointer {p = p} {name = name} {x = x} e before h is) =
    let k = r.each name x e in
    let w = compressed_long (kept_compressed name x k) in
    NameAt.pointer (pointer_at x.offset k.in_range h) (omega (arith, w.0)) (ih name x e (omega arith))

-- By induction on the end.
name_at_below : {m : CompressionTable} {b : List ℕ} → IsTableOf b m → (k q p : ℕ) (name : Labels) → q < k → name_size name ≤ max_size → Compressed m b q p name → NameAt b p name
name_at_below r zero q p name h short s = absurd (omega arith)
name_at_below r (suc k) q p name h short s =
    name_at_if r (λ t x e less. let kept = r.each t x e in name_at_below r k x.end x.offset t (omega arith) kept.short (kept_compressed t x kept)) short s

-- A written name that is short enough is encoded in the sense of `NameAt`.
pub compressed_name_at : {m : CompressionTable} {b : List ℕ} {q p : ℕ} {name : Labels} → IsTableOf b m → name_size name ≤ max_size → Compressed m b q p name → NameAt b p name
compressed_name_at {q = q} {p = p} {name = name} r short s = name_at_below r (q + 1) q p name (omega arith) short s

-- Its encoding ends at q.
pub compressed_ends : {m : CompressionTable} {b : List ℕ} {q p : ℕ} {name : Labels} (s : ℕ) → IsTableOf b m → s + name_size name ≤ max_size → Compressed m b q p name → NameContinues b p s q
compressed_ends {b = b} s r small (root {p = p} h e) = subst (λ q. NameContinues b p s q) (sym e) (NameContinues.root (root_at h))
compressed_ends s r small (label {p = p} {first = first} l h x) =
    let w = compressed_long x in
    NameContinues.label (label_begins l h) (omega arith) (omega arith) (compressed_ends (s + length first + 1) r (omega arith) x)
compressed_ends {b = b} s r small (pointer {p = p} {name = name} {x = x} e before h is) =
    subst (λ q. NameContinues b p s q) (sym is) (NameContinues.pointer (pointer_at x.offset (r.each name x e).in_range h))

-- A name that ends within the first `len` octets is encoded after truncation.
compressed_cut : {m : CompressionTable} {b : List ℕ} {q p : ℕ} {name : Labels} (len : ℕ) → q ≤ len → Compressed m b q p name → Compressed (cut m len) (take len b) q p name
compressed_cut {m = m} {b = b} {q = q} len l s =
    moved m (cut m len) b (take len b) 0 q (λ p xs low fits h. at_take len (omega arith) h) (λ t x e less. get_in_cut m len t x e (omega arith)) (omega arith) s

-- Truncating keeps the table sound.
pub is_table_cut : {m : CompressionTable} {b : List ℕ} (len : ℕ) → IsTableOf b m → IsTableOf (take len b) (cut m len)
is_table_cut {m = m} {b = b} len r = record {
  each = λ s x e.
      let g = get_of_cut m len s x e in
      let l : x.end ≤ len = g.1 in
      kept_moved m (cut m len) b (take len b) s x (λ p xs low fits h. at_take len (omega arith) h) (λ t y e less. get_in_cut m len t y e (omega arith)) (r.each s x g.0);
}

-- Overwriting with no octets changes nothing.
overwritten_by_none : (b : List ℕ) (offset : ℕ) (over : List ℕ) → length over ≡ 0 → overwritten b offset over ≡ b
overwritten_by_none b offset over none =
    let same_end : offset + 0 ≡ offset = omega arith in
    rw (nil_from_length over none, append-nil) (ap (λ (n : ℕ). take offset b ++ drop n b) same_end ∙ take-append-drop offset b)

-- Overwriting octets that no name in the table uses keeps it sound.
pub is_table_over : {m : CompressionTable} {b : List ℕ} (offset : ℕ) (over : List ℕ) → IsClear m offset (length over) → IsTableOf b m → IsTableOf (overwritten b offset over) m
is_table_over {m = m} {b = b} offset over clear r = record {
  each = λ s x e.
      elim (clear s x e) [
        | inl none ↦ (subst (λ (c : List ℕ). IsTableOf c m) (sym (overwritten_by_none b offset over none)) r).each s x e
        | inr (inl w) ↦ kept_moved m m b _ s x (λ p xs low fits h. at_before over offset (omega (arith, w)) h) (λ t y e less. e) (r.each s x e)
        | inr (inr w) ↦ kept_moved m m b _ s x (λ p xs low fits h. at_after over offset (omega (arith, w)) h) (λ t y e less. e) (r.each s x e)
      ];
}

-- A written name is encoded in the sense of `NameAt` in the octets up to any later end.
pub name_at_up_to : {m : CompressionTable} {b : List ℕ} {q p : ℕ} {name : Labels} (end : ℕ) → IsTableOf b m → q ≤ end → name_size name ≤ max_size
    → Compressed m b q p name → NameAt (take end b) p name
name_at_up_to end r l short s = compressed_name_at (is_table_cut end r) short (compressed_cut end l s)

-- Its encoding ends at the same offset there.
pub ends_within_octets : {m : CompressionTable} {b : List ℕ} {q p : ℕ} {name : Labels} (end : ℕ) → IsTableOf b m → q ≤ end → name_size name ≤ max_size
    → Compressed m b q p name → NameEndsAt (take end b) p q
ends_within_octets end r l short s = compressed_ends 0 (is_table_cut end r) (omega arith) (compressed_cut end l s)
