-- Names that were written are accepted: each pointer leads to a label of an earlier name.
use Rattle.std.proofs.Common.{◌≡◌, ◌⊎◌, inl, inr, ℕ, ◌+◌, ◌<◌, ◌≤◌, Some, List, [], ◌∷◌, length, refl, subst, arith}
use Rattle.std.specs.FinMap.{get}
use Rattle.dns_name.specs.Names.{Labels, IsName, uncompressed}
use Rattle.dns_name.proofs.theory.UncompressedNames.{name_tail}
use Rattle.dns_wire.specs.Encoders.{CompressionTable, TableEntry}
use Rattle.dns_wire.specs.Targets.{At, Compressed, IsTableOf, IsTarget, Written}
use Rattle.dns_wire.specs.Targets.Compressed.{root, label, pointer}
use Rattle.dns_wire.proofs.theory.CompressedNames.{root_at, label_begins, pointer_at, label_part, after_label, compressed_long, kept_compressed, compressed_ends}
use Rattle.dns_wire.proofs.theory.EncodedNames.{compressed_full}
use Rattle.dns_edit.specs.Pointers.{LabelOf, LabelOfAny, PointsTo, AcceptsName}
use Rattle.dns_edit.specs.Pointers.LabelOf.{first as here, later}
use Rattle.dns_edit.specs.Pointers.PointsTo.{pointer as points, label as after}
use Rattle.dns_regular.proofs.Origins.{Spans, IsAmong, Traced}

-- The names begin at or after an offset.
abbrev pub From : ℕ → Spans → Type 0
From p ss = (a e : ℕ) → IsAmong a e ss → p ≤ a

-- An offset is among those of names.
abbrev pub Member : ℕ → List ℕ → Type 0
Member p [] = ⊥
Member p (q ∷ names) = (p ≡ q) ⊎ Member p names

-- Each name that may be compressed ends by p, and is among the earlier names, or is still to come.
abbrev pub Known : (ℕ → ℕ → Type 0) → List ℕ → ℕ → Spans → Type 0
Known IsSpan names p ss = (a e : ℕ) → IsSpan a e → (Member a names × (e ≤ p)) ⊎ IsAmong a e ss

-- A label of one of the names is one of any of them.
label_of_member : {b : List ℕ} {a t : ℕ} (names : List ℕ) → Member a names → LabelOf b a t → LabelOfAny b names t
label_of_member [] m x = absurd m
label_of_member {b = b} {t = t} (q ∷ names) (inl e) x = inl (subst (λ (k : ℕ). LabelOf b k t) e x)
label_of_member (q ∷ names) (inr m) x = inr (label_of_member names m x)

-- A label of a name begins at or after it.
pub label_low : {b : List ℕ} {p t : ℕ} → LabelOf b p t → p ≤ t
label_low (here h) = omega arith
label_low (later h x) = let l = label_low x in omega arith

-- The pointer of a written name leads to an entry of the table, of which the name ends before the pointer.
points_to_entry : {m : CompressionTable} {b : List ℕ} {q p t : ℕ} {name : Labels} → IsTableOf b m → Compressed m b q p name → PointsTo b p t
    → (s : Labels) × (x : TableEntry) × (get m s ≡ Some x) × (x.offset ≡ t) × (x.end < q)
points_to_entry r (root h e) (points k) = absurd (let root = root_at h in cc)
points_to_entry r (root h e) (after k y) = absurd (let root = root_at h in cc)
points_to_entry r (label l h x) (points k) = absurd (let begins = label_begins l h in cc)
points_to_entry {m = m} {b = b} {q = q} {t = t} r (label {p = p} {first = first} {rest = rest} l h x) (after {n = n} k y) =
    let begins = label_begins l h in
    let same : n ≡ length first = cc in
    points_to_entry r x (subst (λ (k : ℕ). PointsTo b (p + 1 + k) t) same y)
points_to_entry {t = t} r (pointer {p = p} {name = name} {x = x} e before h is) (points k) =
    let begins = pointer_at x.offset (r.each name x e).in_range h in
    (name, x, e, cc, omega arith)
points_to_entry r (pointer {name = name} {x = x} e before h is) (after k y) =
    absurd (let begins = pointer_at x.offset (r.each name x e).in_range h in cc)

-- An uncompressed name has no pointer.
no_pointer : {b : List ℕ} (p t : ℕ) (name : Labels) → IsName name → At b p (uncompressed name) → PointsTo b p t → ⊥
no_pointer p t [] is h (points k) = let root = root_at h in cc
no_pointer p t [] is h (after k y) = let root = root_at h in cc
no_pointer p t (first ∷ rest) is h (points k) =
    let begins = label_begins (name_tail first rest is).0 (label_part first (uncompressed rest) h) in cc
no_pointer {b = b} p t (first ∷ rest) is h (after {n = n} k y) =
    let tail = name_tail first rest is in
    let begins = label_begins tail.0 (label_part first (uncompressed rest) h) in
    let same : n ≡ length first = cc in
    no_pointer (p + 1 + length first) t rest tail.1 (after_label first (uncompressed rest) h) (subst (λ (k : ℕ). PointsTo b (p + 1 + k) t) same y)

module _ (IsSpan : ℕ → ℕ → Type 0) (t : Written) (good : IsTarget t) (traced : Traced IsSpan t) where
  -- A name that may be compressed is accepted.
  pub accepts_name : (names : List ℕ) (p q : ℕ) (name : Labels) (ss : Spans) → IsName name → Compressed t.table t.octets q p name → From q ss
      → Known IsSpan names p ((p, q) ∷ ss) → AcceptsName t.octets names p q (p ∷ names)
  accepts_name names p q name ss is h from known = record {
    ends = compressed_ends 0 good (let s = is.short in omega (arith, s)) h;
    back = λ k points.
        let found = points_to_entry good h points in
        let x = found.1 in
        let o = traced.each found.0 x found.2 in
        let long = compressed_long (kept_compressed found.0 x (good.each found.0 x found.2)) in
        let low = label_low o.label in
        let same = found.3 in
        let end = found.4 in
        elim (known o.start x.end o.span) [
          | inl before ↦
              (omega (arith, before.1, long.0, same), subst (λ (k : ℕ). LabelOfAny t.octets names k) same (label_of_member names before.0 o.label))
          | inr (inl this) ↦ absurd (omega (arith, this.1, end))
          | inr (inr next) ↦ absurd (let k = from o.start x.end next in omega (arith, k, low, long.0, end))
        ];
    added = refl;
  }

  -- A name that is never compressed is accepted.
  pub accepts_full : (names : List ℕ) (p q : ℕ) (name : Labels) → IsName name → At t.octets p (uncompressed name) → q ≡ p + length (uncompressed name)
      → AcceptsName t.octets names p q (p ∷ names)
  accepts_full names p q name is h e = record {
    ends = compressed_ends 0 good (let s = is.short in omega (arith, s)) (compressed_full t.table t.octets q p name is h e);
    back = λ k points. absurd (no_pointer p k name is h points);
    added = refl;
  }

-- After a name that may be compressed, it is among the earlier ones.
pub known_after : (IsSpan : ℕ → ℕ → Type 0) (names : List ℕ) (p q : ℕ) (ss : Spans) → p ≤ q → Known IsSpan names p ((p, q) ∷ ss) → Known IsSpan (p ∷ names) q ss
known_after IsSpan names p q ss rises known = λ a e is. elim (known a e is) [
  | inl before ↦ inl (inr before.0, omega (arith, before.1))
  | inr (inl this) ↦ inl (inl this.0, omega (arith, this.1))
  | inr (inr next) ↦ inr next
]

-- After other octets, the earlier names are earlier ones.
pub known_later : (IsSpan : ℕ → ℕ → Type 0) (names : List ℕ) (p q : ℕ) (ss : Spans) → p ≤ q → Known IsSpan names p ss → Known IsSpan names q ss
known_later IsSpan names p q ss rises known = λ a e is. elim (known a e is) [ inl before ↦ inl (before.0, omega (arith, before.1)) | inr next ↦ inr next ]

-- Also after another name.
pub known_more : (IsSpan : ℕ → ℕ → Type 0) (names : List ℕ) (r p q : ℕ) (ss : Spans) → p ≤ q → Known IsSpan names p ss → Known IsSpan (r ∷ names) q ss
known_more IsSpan names r p q ss rises known = λ a e is. elim (known a e is) [ inl before ↦ inl (inr before.0, omega (arith, before.1)) | inr next ↦ inr next ]
