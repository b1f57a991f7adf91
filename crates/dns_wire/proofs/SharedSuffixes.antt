-- How short a written name is if the table has all suffixes of earlier names.
use Rattle.std.proofs.Common.{◌≡◌, ℕ, suc, ◌+◌, ◌<◌, ◌≤◌, ◌⊎◌, inl, inr, Bool, true, false, cond, List, [], ◌∷◌, ◌++◌, length, length-append, append_assoc, arith, ap, sym, ◌∙◌, refl, subst}
use Rattle.std.specs.Prelude.{Option, Some, None, nat_lt, ◌&&◌, is_some}
use Rattle.std.specs.List.{list_all}
use Rattle.std.proofs.lemmas.Grind.{common_steps}
use Rattle.std.specs.FinMap.{get, insert, len, get-insert, len-insert, contains_key}
use Rattle.std.specs.Ordering.{eq_by_cmp}
use Rattle.dns_name.specs.Names.{Labels, IsName, uncompressed, name_size}
use Rattle.dns_wire.specs.Encoders.{CompressionTable, TableEntry, Suffix, add_suffixes, suffix_cmp, suffix_total, Rule, Plain, Static, Tree, Hash, compress, entering_suffixes, may_enter}
use Rattle.dns_wire.specs.Targets.{At}
use Rattle.dns_wire.specs.Compression.{IsSuffix, IsShared, SharesAll}
use Rattle.dns_wire.specs.Parts.{LabelsInPointerRange}
use Rattle.dns_wire.proofs.theory.TargetTheorems.{in_range_label}
use Rattle.dns_wire.proofs.theory.CompressedNames.{label_begins, label_part, after_label}
use Rattle.dns_wire.proofs.theory.CompressionTables.{get-insert_same}
use Rattle.dns_wire.proofs.theory.EncodedNames.{Each, found, CompressesAs, compresses_as}
use Rattle.dns_wire.proofs.theory.EncodedNames.CompressesAs.{at_root, at_entry, at_kept, at_far}
use Rattle.dns_name.proofs.theory.UncompressedNames.{name_tail}

-- The table has exactly the suffixes of these names.
pub record Knows (m : CompressionTable) (names : List Labels) : Type 0 where
  pub has : (s : Labels) → IsShared names s → (x : TableEntry) × (get m s ≡ Some x)
  pub only : (s : Labels) (x : TableEntry) → get m s ≡ Some x → IsShared names s

-- A suffix of a suffix is a suffix.
pub suffix_suffix : {s t name : Labels} → IsSuffix s t → IsSuffix t name → IsSuffix s name
suffix_suffix {s = s} {t = t} {name = name} a b = record {
  first = b.first ++ a.first;
  whole = b.whole ∙ ap (λ (u : Labels). b.first ++ u) a.whole ∙ sym (append_assoc b.first a.first s);
  some = a.some;
}

-- A suffix of a shared suffix is shared.
pub shared_suffix : (names : List Labels) (s t : Labels) → IsSuffix s t → IsShared names t → IsShared names s
shared_suffix [] s t a h = absurd h
shared_suffix (name ∷ names) s t a (inl h) = inl (suffix_suffix a h)
shared_suffix (name ∷ names) s t a (inr h) = inr (shared_suffix names s t a h)

-- A shared suffix has a label.
pub shared_some : (names : List Labels) (s : Labels) → IsShared names s → 1 ≤ length s
shared_some [] s h = absurd h
shared_some (name ∷ names) s (inl h) = h.some
shared_some (name ∷ names) s (inr h) = shared_some names s h

-- Each suffix before the one in the table can enter the table.
abbrev pub AllKept : {rule : Rule} {m : CompressionTable} {p entry_count : ℕ} {name : Labels} {encoding : List ℕ} {ss : List Suffix} → CompressesAs rule m p entry_count name encoding ss → Type 0
AllKept at_root = Unit {0}
AllKept (at_entry e) = Unit {0}
AllKept (at_kept e k s) = AllKept s
AllKept (at_far e k) = ⊥

-- No way to write the name after these names takes fewer than n octets, and one takes n: whole if no suffix is shared, else with the fewest labels before a shared suffix.
abbrev pub Best : List Labels → Labels → ℕ → Type 0
Best names name n =
    ((n ≡ name_size name + 1) × ((first rest : Labels) → name ≡ first ++ rest → IsShared names rest → ⊥))
    ⊎ ((first : Labels) × (rest : Labels) × (name ≡ first ++ rest) × IsShared names rest × (n ≡ name_size first + 2)
    × ((f r : Labels) → name ≡ f ++ r → IsShared names r → name_size first ≤ name_size f))

-- The root takes one octet.
best_root : (names : List Labels) → Best names [] 1
best_root names = inl (refl, λ first rest e s. let some = shared_some names rest s in let l : 0 ≡ length first + length rest = ap length e ∙ length-append first rest in omega arith)

-- If the whole name isn't shared, a shared suffix is one of its parent.
after_first : (P : Labels → Labels → Type 0) (names : List Labels) (label : List ℕ) (others : Labels) → (IsShared names (label ∷ others) → ⊥)
    → ((f r : Labels) → others ≡ f ++ r → IsShared names r → P (label ∷ f) r)
    → (f r : Labels) → label ∷ others ≡ f ++ r → IsShared names r → P f r
after_first P names label others without h [] r e s = absurd (without (subst (λ (n : Labels). IsShared names n) (sym e) s))
after_first P names label others without h (l ∷ f) r e s =
    let one : label ≡ l = cc in
    let two : others ≡ f ++ r = cc in
    subst (λ (k : List ℕ). P (k ∷ f) r) one (h f r two s)

-- A label before a shortest parent is shortest, if the whole name isn't shared.
best_label : (names : List Labels) (label : List ℕ) (others : Labels) (n : ℕ) → (IsShared names (label ∷ others) → ⊥) → Best names others n → Best names (label ∷ others) (1 + length label + n)
best_label names label others n without (inl a) =
    inl (omega (arith, a.0), after_first (λ f r. ⊥) names label others without (λ f r e s. a.1 f r e s))
best_label names label others n without (inr a) =
    inr (
      label ∷ a.0,
      a.1,
      ap (λ (k : Labels). label ∷ k) a.2,
      a.3,
      omega (arith, a.4),
      after_first (λ f r. name_size (label ∷ a.0) ≤ name_size f) names label others without (λ f r e s. let l = a.5 f r e s in omega arith),
    )

-- A name is written as short as possible.
pub best : {rule : Rule} {m : CompressionTable} {p entry_count : ℕ} {name : Labels} {encoding : List ℕ} {ss : List Suffix} (names : List Labels)
    → Knows m names → (s : CompressesAs rule m p entry_count name encoding ss) → AllKept s → Best names name (length encoding)
best names knows at_root k = best_root names
best names knows (at_entry {first = first} {rest = rest} {x = x} e) k = inr ([], first ∷ rest, refl, knows.only (first ∷ rest) x e, refl, λ f r e s. omega arith)
best names knows (at_kept {first = first} {rest = rest} {encoding = encoding} e is s) k =
    let without : IsShared names (first ∷ rest) → ⊥ = λ s. let h = knows.has (first ∷ rest) s in let c : None ≡ Some h.0 = sym e ∙ h.1 in cc in
    let size : 1 + length first + length encoding ≡ suc (length (first ++ encoding)) = let l = length-append first encoding in omega arith in
    subst (λ n. Best names (first ∷ rest) n) size (best_label names first rest (length encoding) without (best names knows s k))
best names knows (at_far e is) k = absurd k

-- A name is a suffix of itself.
suffix_whole : (label : List ℕ) (others : Labels) → IsSuffix (label ∷ others) (label ∷ others)
suffix_whole label others = record { first = []; whole = refl; some = omega arith }

-- A suffix of the parent is a suffix of the name.
suffix_others : (s : Labels) (label : List ℕ) (others : Labels) → IsSuffix s others → IsSuffix s (label ∷ others)
suffix_others s label others h = record { first = label ∷ h.first; whole = ap (λ (n : Labels). label ∷ n) h.whole; some = h.some }

-- The same for each of a list.
each_others : (label : List ℕ) (others : Labels) (ss : List Suffix) → Each (λ s. IsSuffix s.labels others) ss → Each (λ s. IsSuffix s.labels (label ∷ others)) ss
each_others label others [] h = tt
each_others label others (s ∷ ss) h = (suffix_others s.labels label others h.0, each_others label others ss h.1)

-- The suffixes that are written out are suffixes of the name.
compress_suffixes : {rule : Rule} {m : CompressionTable} {p entry_count : ℕ} {name : Labels} {encoding : List ℕ} {ss : List Suffix}
    → CompressesAs rule m p entry_count name encoding ss → Each (λ s. IsSuffix s.labels name) ss
compress_suffixes at_root = tt
compress_suffixes (at_entry e) = tt
compress_suffixes (at_kept {first = first} {rest = rest} {ss = ss} e k s) = (suffix_whole first rest, each_others first rest ss (compress_suffixes s))
compress_suffixes (at_far e k) = tt

-- A suffix is in the list.
abbrev Listed : Labels → List Suffix → Type 0
Listed t [] = ⊥
Listed t (s ∷ ss) = (t ≡ s.labels) ⊎ Listed t ss

-- A suffix is the whole name, or a suffix of its parent.
suffix_cases : (s : Labels) (label : List ℕ) (others first : Labels) → label ∷ others ≡ first ++ s → 1 ≤ length s → (s ≡ label ∷ others) ⊎ IsSuffix s others
suffix_cases s label others [] e some = inl (sym e)
suffix_cases s label others (l ∷ first) e some = inr (record { first = first; whole = cc; some = some })

-- The root has no suffix.
no_suffix : (s : Labels) → IsSuffix s [] → ⊥
no_suffix s h = let some = h.some in let l : 0 ≡ length h.first + length s = ap length h.whole ∙ length-append h.first s in omega arith

-- Each suffix of the name was shared, or is written out.
listed : {rule : Rule} {m : CompressionTable} {p entry_count : ℕ} {name : Labels} {encoding : List ℕ} {ss : List Suffix} (names : List Labels)
    (t : Labels) → Knows m names → (s : CompressesAs rule m p entry_count name encoding ss) → AllKept s → IsSuffix t name → IsShared names t ⊎ Listed t ss
listed names t knows at_root k h = absurd (no_suffix t h)
listed names t knows (at_entry {first = first} {rest = rest} {x = x} e) k h = inl (shared_suffix names t (first ∷ rest) h (knows.only (first ∷ rest) x e))
listed names t knows (at_kept {first = first} {rest = rest} e is s) k h =
    elim (suffix_cases t first rest h.first h.whole h.some) [
      | inl w ↦ inr (inl w)
      | inr w ↦ elim (listed names t knows s k w) [ inl a ↦ inl a | inr a ↦ inr (inr a) ]
    ]
listed names t knows (at_far e is) k h = absurd k

-- The table has an inserted suffix.
inserted_same : (m : CompressionTable) (t k : Labels) (v : TableEntry) → t ≡ k → get (insert m k v) t ≡ Some v
inserted_same m t k v e = ap (λ (n : Labels). get (insert m k v) n) e ∙ get-insert_same m k v

-- The table still has an earlier suffix, perhaps with another entry.
inserted_other : (b : Bool) (v : TableEntry) (o : Option TableEntry) (x : TableEntry) → o ≡ Some x → (y : TableEntry) × (cond b (Some v) o ≡ Some y)
inserted_other true v o x e = (v, refl)
inserted_other false v o x e = (x, e)

-- The table has each suffix of the list.
listed_found : (m : CompressionTable) (t : Labels) (q : ℕ) (ss : List Suffix) → Listed t ss → (x : TableEntry) × (get (add_suffixes m ss q) t ≡ Some x)
listed_found m t q [] h = absurd h
listed_found m t q (s ∷ ss) (inl e) = (record { offset = s.offset; end = q }, inserted_same (add_suffixes m ss q) t s.labels (record { offset = s.offset; end = q }) e)
listed_found m t q (s ∷ ss) (inr h) =
    let f = listed_found m t q ss h in
    let v : TableEntry = record { offset = s.offset; end = q } in
    let o = inserted_other (eq_by_cmp suffix_cmp t s.labels) v (get (add_suffixes m ss q) t) f.0 f.1 in
    (o.0, get-insert suffix_total (add_suffixes m ss q) s.labels v t ∙ o.1)

-- After the name is written, the table has exactly the suffixes of this name and of the earlier ones.
pub knows_more : (rule : Rule) (m n : CompressionTable) (names : List Labels) (p entry_count q : ℕ) (name : Labels) → Knows m names → AllKept (compresses_as rule m p entry_count name)
    → n ≡ add_suffixes m (compress rule m p entry_count name).suffixes q → ((s : Labels) (x : TableEntry) → get m s ≡ Some x → get n s ≡ Some x) → Knows n (name ∷ names)
knows_more rule m n names p entry_count q name knows k is g =
    let ss = (compress rule m p entry_count name).suffixes in
    let old : (s : Labels) → IsShared names s → (x : TableEntry) × (get n s ≡ Some x) = λ s h. let f = knows.has s h in (f.0, g s f.0 f.1) in
    record {
      has = λ s h.
          elim h [
            | inl a ↦ elim (listed names s knows (compresses_as rule m p entry_count name) k a) [
              | inl b ↦ old s b
              | inr b ↦ let f = listed_found m s q ss b in (f.0, ap (λ (r : CompressionTable). get r s) is ∙ f.1)
            ]
            | inr a ↦ old s a
          ];
      only = λ s x e.
          elim (found m ss q (λ t. IsSuffix t.labels name) s x (compress_suffixes (compresses_as rule m p entry_count name)) (ap (λ (r : CompressionTable). get r s) (sym is) ∙ e)) [
            | inl a ↦ inr (knows.only s x a)
            | inr a ↦ inl a.0
          ];
    }

-- A rule that can add every suffix to a table with n entries can do so with fewer.
pub few_less : (rule : Rule) (k n : ℕ) → k ≤ n → SharesAll rule n → SharesAll rule k
few_less Plain k n l h = h
few_less Static k n l h = omega arith
few_less Tree k n l h = tt
few_less Hash k n l h = tt

-- A rule by which each suffix within pointer range enters the table, while `SharesAll` holds.
pub record KeepsInPointerRange (rule : Rule) : Type 0 where
  pub keeps : (p entry_count : ℕ) → p < 16384 → SharesAll rule entry_count → may_enter rule p entry_count ≡ true
  pub chosen : (ss : List Suffix) → list_all (λ s. nat_lt s.offset 16384) ss ≡ true → entering_suffixes rule ss ≡ ss

-- The tree rule is one.
pub tree_keeps_in_range : KeepsInPointerRange Tree
tree_keeps_in_range = record { keeps = λ p entry_count h few. grind (arith, common_steps); chosen = λ ss h. refl }

-- The test of the static rule: the offset is within pointer range, and the table has fewer than 24 entries.
static_keeps : (p entry_count : ℕ) → p < 16384 → entry_count < 24 → nat_lt p 16384 && nat_lt entry_count 24 ≡ true
static_keeps p entry_count l h =
    let a : nat_lt p 16384 ≡ true = grind (arith, common_steps) in
    let b : nat_lt entry_count 24 ≡ true = grind (arith, common_steps) in
    rw (a, b) refl

-- The static rule is one.
pub static_keeps_in_range : KeepsInPointerRange Static
static_keeps_in_range = record { keeps = λ p entry_count h few. static_keeps p entry_count h few; chosen = λ ss h. refl }

-- The hash rule is one.
pub hash_keeps_in_range : KeepsInPointerRange Hash
hash_keeps_in_range = record { keeps = λ p entry_count h few. refl; chosen = λ ss h. ap (λ (b : Bool). cond b ss []) h }

-- If every written label is within pointer range, each suffix before the one in the table can enter the table.
pub in_range_kept : {rule : Rule} {m : CompressionTable} {p entry_count : ℕ} {name : Labels} {encoding : List ℕ} {ss : List Suffix}
    (r : KeepsInPointerRange rule) (b : List ℕ) (q : ℕ) (s : CompressesAs rule m p entry_count name encoding ss) → IsName name
    → LabelsInPointerRange b q p → At b p encoding → SharesAll rule (entry_count + length ss) → AllKept s
in_range_kept r b q at_root is in_range h few = tt
in_range_kept r b q (at_entry e) is in_range h few = tt
in_range_kept {rule = rule} r b q (at_kept {entry_count = entry_count} {first = first} {rest = rest} {encoding = encoding} {ss = ss} e k s) is in_range h few =
    let tail = name_tail first rest is in
    let a = in_range_label in_range (label_begins tail.0 (label_part first encoding h)) in
    in_range_kept r b q s tail.1 a.1 (after_label first encoding h) (few_less rule (entry_count + 1 + length ss) (entry_count + suc (length ss)) (omega arith) few)
in_range_kept {rule = rule} r b q (at_far {p = p} {entry_count = entry_count} {first = first} {rest = rest} e k) is in_range h few =
    let a = in_range_label in_range (label_begins (name_tail first rest is).0 (label_part first (uncompressed rest) h)) in
    let t : true ≡ false = sym (r.keeps p entry_count a.0 (few_less rule entry_count (entry_count + 0) (omega arith) few)) ∙ k in
    absurd (cc)

-- If every written label is within pointer range, so is each suffix that is written out.
pub in_range_suffixes : {rule : Rule} {m : CompressionTable} {p entry_count : ℕ} {name : Labels} {encoding : List ℕ} {ss : List Suffix}
    (b : List ℕ) (q : ℕ) → CompressesAs rule m p entry_count name encoding ss → IsName name → LabelsInPointerRange b q p → At b p encoding
    → list_all (λ s. nat_lt s.offset 16384) ss ≡ true
in_range_suffixes b q at_root is in_range h = refl
in_range_suffixes b q (at_entry e) is in_range h = refl
in_range_suffixes b q (at_kept {p = p} {first = first} {rest = rest} {encoding = encoding} e k s) is in_range h =
    let tail = name_tail first rest is in
    let a = in_range_label in_range (label_begins tail.0 (label_part first encoding h)) in
    let small : nat_lt p 16384 ≡ true = let k = a.0 in grind (arith, common_steps) in
    let after = in_range_suffixes b q s tail.1 a.1 (after_label first encoding h) in
    rw (small, after) refl
in_range_suffixes b q (at_far e k) is in_range h = refl

-- An insertion never removes an entry.
len_more : (m : CompressionTable) (k : Labels) (v : TableEntry) (b : Bool) → len (insert m k v) ≡ cond b (len m) (len m + 1) → len m ≤ len (insert m k v)
len_more m k v true e = omega (arith, e)
len_more m k v false e = omega (arith, e)

-- Adding suffixes never removes an entry.
pub len_add_suffixes : (m : CompressionTable) (ss : List Suffix) (q : ℕ) → len m ≤ len (add_suffixes m ss q)
len_add_suffixes m [] q = omega arith
len_add_suffixes m (s ∷ ss) q =
    let r = add_suffixes m ss q in
    let v : TableEntry = record { offset = s.offset; end = q } in
    let a = len_add_suffixes m ss q in
    let b : len r ≤ len (insert r s.labels v) = len_more r s.labels v (contains_key r s.labels) (len-insert suffix_total r s.labels v) in
    omega arith

-- An option without a value is `None`.
none_of : (o : Option TableEntry) → ((x : TableEntry) → o ≡ Some x → ⊥) → o ≡ None
none_of None h = refl
none_of (Some x) h = absurd (h x refl)

-- A name is no suffix of its parent.
longer : (label : List ℕ) (others : Labels) → IsSuffix (label ∷ others) others → ⊥
longer label others h = let e : length others ≡ length h.first + suc (length others) = ap length h.whole ∙ length-append h.first (label ∷ others) in omega arith

-- A suffix that isn't in the table adds one entry.
len_new : (r : CompressionTable) (k : Labels) (v : TableEntry) → get r k ≡ None → len (insert r k v) ≡ len r + 1
len_new r k v e = len-insert suffix_total r k v ∙ ap (λ (o : Option TableEntry). cond (is_some o) (len r) (len r + 1)) e

-- Each suffix that is written out adds one entry.
pub len_compress : {rule : Rule} {m : CompressionTable} {p entry_count : ℕ} {name : Labels} {encoding : List ℕ} {ss : List Suffix} (q : ℕ)
    → CompressesAs rule m p entry_count name encoding ss → len (add_suffixes m ss q) ≡ len m + length ss
len_compress q at_root = omega arith
len_compress q (at_entry e) = omega arith
len_compress {m = m} q (at_kept {p = p} {first = first} {rest = rest} {ss = ss} e k s) =
    let r = add_suffixes m ss q in
    let rec = len_compress q s in
    let new : get r (first ∷ rest) ≡ None = none_of (get r (first ∷ rest)) (λ x f.
    elim (found m ss q (λ t. IsSuffix t.labels rest) (first ∷ rest) x (compress_suffixes s) f) [
      | inl a ↦ let k : None ≡ Some x = sym e ∙ a in cc
      | inr a ↦ longer first rest a.0
    ]) in
    len_new r (first ∷ rest) (record { offset = p; end = q }) new ∙ omega arith
len_compress q (at_far e k) = omega arith
