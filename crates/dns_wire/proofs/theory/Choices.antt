-- A name is encoded by its longest suffix in the table, and by how many of the suffixes before that may enter the table.
use Rattle.std.proofs.Common.{◌≡◌, ◌≢◌, ◌⊎◌, inl, inr, ◌&&◌, nat_lt, if◌then◌else◌, slice_index_or, ℕ, zero, suc, ◌+◌, ◌<◌, ◌≤◌, Bool, true, false}
use Rattle.std.proofs.Common.{Option, Some, None, List, [], ◌∷◌, ◌++◌, length, take, append_assoc, ap, sym, ◌∙◌, refl, subst, arith, below_more}
use Rattle.std.proofs.lemmas.Bool.Decides.{nat_tests}
use Rattle.std.proofs.lemmas.List.Folds.{list_all_at}
use Rattle.std.proofs.lemmas.List.Sums.{list_all-from_AllPass}
use Rattle.std.specs.List.{list_all}
use Rattle.std.specs.FinMap.{get, len}
use Rattle.dns_name.specs.Names.{Labels, framed, uncompressed, name_size}
use Rattle.dns_wire.specs.Encoders.{CompressionTable, TableEntry, Suffix, add_suffixes, Rule, Plain, Static, Tree, Hash, compresses}
use Rattle.dns_wire.specs.Encoders.{pointer, CompressedName, compress, compress_label, may_enter, entering_suffixes, encode_name}
use Rattle.dns_wire.specs.Choice.{first_suffixes, label_offset, IsNew, IsThere, IsFound, Enters, found_octets, planned_octets, NamesByChoice, MayEnterUnlessKeptOut, HashAddsAllOrNone}

-- `may_enter` at equal offsets and counts.
enters_same : (rule : Rule) (p p' h h' : ℕ) (b : Bool) → p ≡ p' → h ≡ h' → may_enter rule p h ≡ b → may_enter rule p' h' ≡ b
enters_same rule p p' h h' b e f k = subst (λ x. may_enter rule x h' ≡ b) e (subst (λ x. may_enter rule p x ≡ b) f k)

by_tests : (o p : Option TableEntry) (a b : Bool) (label : List ℕ) (suffix : Suffix) (after : CompressedName) → o ≡ p → a ≡ b
    → compress_label o a label suffix after ≡ compress_label p b label suffix after
by_tests o p a b label suffix after e f = ap (λ (x : Option TableEntry). compress_label x a label suffix after) e ∙ ap (λ (x : Bool). compress_label p x label suffix after) f

-- Which suffixes of the parent may enter the table.
enters_parent : (rule : Rule) (w entry_count : ℕ) (label : List ℕ) (parent : Labels) (from count : ℕ) → Enters rule w entry_count (label ∷ parent) (suc from) (suc count)
    → Enters rule (w + 1 + length label) (entry_count + 1) parent from count
enters_parent rule w entry_count label parent from count h = record {
  within = omega (arith, h.within);
  in_range = λ i l. enters_same rule (label_offset w (label ∷ parent) (suc i)) (label_offset (w + 1 + length label) parent i)
      (entry_count + suc i) (entry_count + 1 + i) true (omega arith) (omega arith) (h.in_range (suc i) (omega arith));
  far = λ l. enters_same rule (label_offset w (label ∷ parent) (suc count)) (label_offset (w + 1 + length label) parent count)
      (entry_count + suc count) (entry_count + 1 + count) false (omega arith) (omega arith) (h.far (omega arith));
}

new_parent : (m : CompressionTable) (label : List ℕ) (parent : Labels) (from : ℕ) → IsNew m (label ∷ parent) (suc from) → IsNew m parent from
new_parent m label parent from h k l = h (suc k) (omega arith)

-- If the whole name may enter the table, its first label is written before its parent.
compress_entering : (rule : Rule) (m : CompressionTable) (w entry_count : ℕ) (label : List ℕ) (parent : Labels) (from count : ℕ) → IsNew m (label ∷ parent) (suc from)
    → Enters rule w entry_count (label ∷ parent) (suc from) (suc count)
    → let after = compress rule m (w + 1 + length label) (entry_count + 1) parent in
    compress rule m w entry_count (label ∷ parent) ≡ record { octets = framed label ++ after.octets; suffixes = record { labels = label ∷ parent; offset = w } ∷ after.suffixes }
compress_entering rule m w entry_count label parent from count new h =
    by_tests (get m (label ∷ parent)) None (may_enter rule w entry_count) true label (record { labels = label ∷ parent; offset = w }) _ (new 0 (omega arith))
    (enters_same rule (label_offset w (label ∷ parent) 0) w (entry_count + 0) entry_count true (omega arith) (omega arith) (h.in_range 0 (omega arith)))

-- If one of the suffixes before the one in the table may not enter, the whole name is written uncompressed.
compress_far : (rule : Rule) (m : CompressionTable) (w entry_count : ℕ) (name : Labels) (from count : ℕ) → IsNew m name from → from ≤ length name → Enters rule w entry_count name from count
    → count < from → compress rule m w entry_count name ≡ record { octets = uncompressed name; suffixes = first_suffixes count name w }
compress_far rule m w entry_count [] from count new l h less = absurd (omega arith)
compress_far rule m w entry_count (label ∷ parent) from zero new l h less =
    by_tests (get m (label ∷ parent)) None (may_enter rule w entry_count) false label (record { labels = label ∷ parent; offset = w }) _ (new 0 less)
    (enters_same rule (label_offset w (label ∷ parent) 0) w (entry_count + 0) entry_count false (omega arith) (omega arith) (h.far less))
compress_far rule m w entry_count (label ∷ parent) zero (suc count) new l h less = absurd (omega arith)
compress_far rule m w entry_count (label ∷ parent) (suc from) (suc count) new l h less =
    compress_entering rule m w entry_count label parent from count new h
    ∙ ap (λ (after : CompressedName). let s : CompressedName = record { octets = framed label ++ after.octets; suffixes = record { labels = label ∷ parent; offset = w } ∷ after.suffixes } in s)
    (compress_far rule m (w + 1 + length label) (entry_count + 1) parent from count (new_parent m label parent from new) (omega arith)
    (enters_parent rule w entry_count label parent from count h) (omega arith))

-- One more label before a pointer.
pointed_more : (label : List ℕ) (parent : Labels) (from offset : ℕ)
    → framed label ++ (take (name_size (take from parent)) (uncompressed parent) ++ pointer offset)
    ≡ take (name_size (take (suc from) (label ∷ parent))) (uncompressed (label ∷ parent)) ++ pointer offset
pointed_more label parent from offset =
    let long : name_size (take (suc from) (label ∷ parent)) ≡ suc (length label + name_size (take from parent)) = omega arith in
    rw long
    (ap (λ (xs : List ℕ). length label ∷ xs)
    (sym (append_assoc label (take (name_size (take from parent)) (uncompressed parent)) (pointer offset))
    ∙ ap (λ (xs : List ℕ). xs ++ pointer offset) (sym (take_over label (uncompressed parent) (name_size (take from parent))))))
  where
    take_over : (xs ys : List ℕ) (n : ℕ) → take (length xs + n) (xs ++ ys) ≡ xs ++ take n ys
    take_over [] ys n = let z : 0 + n ≡ n = omega arith in ap (λ (k : ℕ). take k ys) z
    take_over (x ∷ xs) ys n = let z : length (x ∷ xs) + n ≡ suc (length xs + n) = omega arith in rw z (ap (λ (zs : List ℕ). x ∷ zs) (take_over xs ys n))

-- If all suffixes before one in the table may enter, their labels and a pointer are written.
compress_pointed : (rule : Rule) (m : CompressionTable) (w entry_count : ℕ) (name : Labels) (from offset : ℕ) → IsNew m name from → IsThere m name from (Some offset)
    → Enters rule w entry_count name from from
    → compress rule m w entry_count name ≡ record { octets = take (name_size (take from name)) (uncompressed name) ++ pointer offset; suffixes = first_suffixes from name w }
compress_pointed rule m w entry_count [] from offset new there h = absurd (omega (arith, there.0))
compress_pointed rule m w entry_count (label ∷ parent) zero offset new there h =
    by_tests (get m (label ∷ parent)) (Some there.1.0) (may_enter rule w entry_count) (may_enter rule w entry_count) label (record { labels = label ∷ parent; offset = w }) _ there.1.1 refl
    ∙ ap (λ (p : ℕ). let s : CompressedName = record { octets = pointer p; suffixes = [] } in s) there.1.2
compress_pointed rule m w entry_count (label ∷ parent) (suc from) offset new there h =
    compress_entering rule m w entry_count label parent from from new h
    ∙ ap (λ (after : CompressedName). let s : CompressedName = record { octets = framed label ++ after.octets; suffixes = record { labels = label ∷ parent; offset = w } ∷ after.suffixes } in s)
    (compress_pointed rule m (w + 1 + length label) (entry_count + 1) parent from offset (new_parent m label parent from new)
    (let l = there.0 in omega arith, there.1) (enters_parent rule w entry_count label parent from from h))
    ∙ ap (λ (xs : List ℕ). let s : CompressedName = record {
      octets = xs;
      suffixes = record { labels = label ∷ parent; offset = w } ∷ first_suffixes from parent (w + 1 + length label);
    } in s)
    (pointed_more label parent from offset)

-- If no suffix is in the table and all may enter, all labels are written.
compress_new : (rule : Rule) (m : CompressionTable) (w entry_count : ℕ) (name : Labels) (from : ℕ) → IsNew m name from → from ≡ length name → Enters rule w entry_count name from from
    → compress rule m w entry_count name ≡ record { octets = uncompressed name; suffixes = first_suffixes from name w }
compress_new rule m w entry_count [] zero new e h = refl
compress_new rule m w entry_count [] (suc from) new e h = absurd (omega arith)
compress_new rule m w entry_count (label ∷ parent) zero new e h = absurd (omega arith)
compress_new rule m w entry_count (label ∷ parent) (suc from) new e h =
    compress_entering rule m w entry_count label parent from from new h
    ∙ ap (λ (after : CompressedName). let s : CompressedName = record { octets = framed label ++ after.octets; suffixes = record { labels = label ∷ parent; offset = w } ∷ after.suffixes } in s)
    (compress_new rule m (w + 1 + length label) (entry_count + 1) parent from (new_parent m label parent from new) (omega arith) (enters_parent rule w entry_count label parent from from h))

-- A suffix that is found begins within the name.
pub found_within : (m : CompressionTable) (name : Labels) (from : ℕ) (offset : Option ℕ) → IsThere m name from offset → from ≤ length name
found_within m name from None h = omega arith
found_within m name from (Some offset) h = let l = h.0 in omega arith

-- How a name is compressed if all suffixes before the one that is found may enter.
pub compress_found : (rule : Rule) (m : CompressionTable) (w entry_count : ℕ) (name : Labels) (from : ℕ) (offset : Option ℕ) → IsFound m name from offset → Enters rule w entry_count name from from
    → compress rule m w entry_count name ≡ record { octets = found_octets name from offset; suffixes = first_suffixes from name w }
compress_found rule m w entry_count name from None f h = compress_new rule m w entry_count name from f.new f.there h
compress_found rule m w entry_count name from (Some offset) f h = compress_pointed rule m w entry_count name from offset f.new f.there h

-- The same, whether or not all may enter.
compress_planned : (rule : Rule) (m : CompressionTable) (w entry_count : ℕ) (name : Labels) (from count : ℕ) (offset : Option ℕ) (less : Bool) → nat_lt count from ≡ less → IsFound m name from offset
    → Enters rule w entry_count name from count → compress rule m w entry_count name ≡ record { octets = planned_octets less name from offset; suffixes = first_suffixes count name w }
compress_planned rule m w entry_count name from count offset true t f k = compress_far rule m w entry_count name from count f.new (found_within m name from offset f.there) k (grind (arith, nat_tests))
compress_planned rule m w entry_count name from count offset false t f k =
    let l : from ≤ count = grind (arith, nat_tests) in
    let all : count ≡ from = omega (arith, k.within) in
    compress_found rule m w entry_count name from offset f (subst (λ (j : ℕ). Enters rule w entry_count name from j) all k)
    ∙ ap (λ (j : ℕ). let s : CompressedName = record { octets = found_octets name from offset; suffixes = first_suffixes j name w } in s) (sym all)

-- Octets and suffixes give the encoding.
pub record GivesEncoded (rule : Rule) (name : Labels) (m : CompressionTable) (w : ℕ) (encoding : List ℕ) (ss : List Suffix) : Type 0 where
  pub octets : (encode_name rule name m w).octets ≡ encoding
  pub table : (encode_name rule name m w).table ≡ add_suffixes m (entering_suffixes rule ss) (w + length encoding)

-- `encode_name` by the result of `compress`.
pub encoded_by : (rule : Rule) (m : CompressionTable) (w : ℕ) (name : Labels) (encoding : List ℕ) (ss : List Suffix) → rule ≢ Plain
    → compress rule m w (len m) name ≡ record { octets = encoding; suffixes = ss }
    → GivesEncoded rule name m w encoding ss
unfolding encode_name
encoded_by Plain m w name encoding ss n e = absurd (n refl)
encoded_by rule m w name encoding ss n e = record {
  octets = ap (λ (s : CompressedName). s.octets) e;
  table = ap (λ (s : CompressedName). add_suffixes m (entering_suffixes rule s.suffixes) (w + length s.octets)) e;
}

-- A name is encoded by the suffix that is found and by how many suffixes before it may enter.
pub encoded_planned : (rule : Rule) (m : CompressionTable) (w : ℕ) (name : Labels) (from count : ℕ) (offset : Option ℕ) → rule ≢ Plain
    → IsFound m name from offset → Enters rule w (len m) name from count
    → GivesEncoded rule name m w (planned_octets (nat_lt count from) name from offset) (first_suffixes count name w)
encoded_planned rule m w name from count offset n f k = encoded_by rule m w name _ _ n (compress_planned rule m w (len m) name from count offset (nat_lt count from) refl f k)

-- If the whole name isn't in the table, its longest suffix there is that of its parent.
new_more : (m : CompressionTable) (label : List ℕ) (parent : Labels) (from : ℕ) → get m (label ∷ parent) ≡ None → IsNew m parent from → IsNew m (label ∷ parent) (suc from)
new_more m label parent from none h zero l = none
new_more m label parent from none h (suc k) l = h k (omega arith)

there_more : (m : CompressionTable) (label : List ℕ) (parent : Labels) (from : ℕ) (offset : Option ℕ) → IsThere m parent from offset → IsThere m (label ∷ parent) (suc from) offset
there_more m label parent from None h = omega arith
there_more m label parent from (Some offset) h = (let l = h.0 in omega arith, h.1)

longest_by : (m : CompressionTable) (label : List ℕ) (parent : Labels) (o : Option TableEntry) → get m (label ∷ parent) ≡ o
    → (from : ℕ) × (offset : Option ℕ) × IsFound m parent from offset → (from : ℕ) × (offset : Option ℕ) × IsFound m (label ∷ parent) from offset
longest_by m label parent (Some x) e h = (0, Some x.offset, record { new = λ k l. absurd (omega arith); there = (omega arith, (x, e, refl)) })
longest_by m label parent None e h = (suc h.0, h.1, record { new = new_more m label parent h.0 e h.2.new; there = there_more m label parent h.0 h.1 h.2.there })

-- Each name has a longest suffix in the table, or none.
longest_suffix : (m : CompressionTable) (name : Labels) → (from : ℕ) × (offset : Option ℕ) × IsFound m name from offset
longest_suffix m [] = (0, None, record { new = λ k l. absurd (omega arith); there = refl })
longest_suffix m (label ∷ parent) = longest_by m label parent (get m (label ∷ parent)) refl (longest_suffix m parent)

-- One more suffix, after some of which all may enter.
enters_next : (rule : Rule) (w entry_count : ℕ) (name : Labels) (from : ℕ) (b : Bool) → may_enter rule (label_offset w name from) (entry_count + from) ≡ b → Enters rule w entry_count name from from
    → (count : ℕ) × Enters rule w entry_count name (suc from) count
enters_next rule w entry_count name from true e h = (
  from + 1,
  record {
    within = omega arith;
    in_range = below_more (λ i. may_enter rule (label_offset w name i) (entry_count + i) ≡ true) from (λ i l. h.in_range i l) e;
    far = λ l. absurd (omega arith);
  },
)
enters_next rule w entry_count name from false e h = (from, record { within = omega arith; in_range = λ i l. h.in_range i l; far = λ l. e })

-- One more suffix.
enters_more : (rule : Rule) (w entry_count : ℕ) (name : Labels) (from count : ℕ) (b : Bool) → nat_lt count from ≡ b → Enters rule w entry_count name from count
    → (count : ℕ) × Enters rule w entry_count name (suc from) count
enters_more rule w entry_count name from count true t h =
    let less : count < from = grind (arith, nat_tests) in
    (count, record { within = omega arith; in_range = λ i l. h.in_range i l; far = λ l. h.far less })
enters_more rule w entry_count name from count false t h =
    let l : from ≤ count = grind (arith, nat_tests) in
    let all : count ≡ from = omega (arith, h.within) in
    enters_next rule w entry_count name from _ refl (subst (λ (j : ℕ). Enters rule w entry_count name from j) all h)

-- A number of suffixes may enter, before the first that may not.
entering_count : (rule : Rule) (w entry_count : ℕ) (name : Labels) (from : ℕ) → (count : ℕ) × Enters rule w entry_count name from count
entering_count rule w entry_count name zero = (0, record { within = omega arith; in_range = λ i l. absurd (omega arith); far = λ l. absurd (omega arith) })
entering_count rule w entry_count name (suc from) =
    let h = entering_count rule w entry_count name from in enters_more rule w entry_count name from h.0 (nat_lt h.0 from) refl h.1

-- A rule that compresses isn't `Plain`.
not_plain : (rule : Rule) → compresses rule ≡ true → rule ≢ Plain
not_plain rule c e = let z : false ≡ true = sym (ap compresses e) ∙ c in absurd (cc)

-- Each compressor encodes a name so.
pub names_by_choice : NamesByChoice
names_by_choice rule c m w name =
    let longest = longest_suffix m name in
    let entering = entering_count rule w (len m) name longest.0 in
    let given = encoded_planned rule m w name longest.0 entering.0 longest.1 (not_plain rule c) longest.2 entering.1 in
    record {
      from = longest.0;
      offset = longest.1;
      found = longest.2;
      count = entering.0;
      enters = entering.1;
      octets = given.octets;
      table = given.table ∙ ap (λ (encoding : List ℕ). add_suffixes m (entering_suffixes rule (first_suffixes entering.0 name w)) (w + length encoding)) (sym given.octets);
    }

-- The static rule's test fails only from offset 16,384 or from 24 entries on.
static_kept_out : (in_range few : Bool) (offset entry_count : ℕ) → nat_lt offset 16384 ≡ in_range → nat_lt entry_count 24 ≡ few → in_range && few ≡ false → (16384 ≤ offset) ⊎ (24 ≤ entry_count)
static_kept_out false few offset entry_count r f h = inl (grind (arith, nat_tests))
static_kept_out true false offset entry_count r f h = inr (grind (arith, nat_tests))
static_kept_out true true offset entry_count r f h = absurd (cc)

-- It fails wherever one of the two holds.
static_test_false : (in_range few : Bool) (offset entry_count : ℕ) → nat_lt offset 16384 ≡ in_range → nat_lt entry_count 24 ≡ few → (16384 ≤ offset) ⊎ (24 ≤ entry_count) → in_range && few ≡ false
static_test_false false few offset entry_count r f h = refl
static_test_false true false offset entry_count r f h = refl
static_test_false true true offset entry_count r f (inl h) = absurd (grind (arith, nat_tests))
static_test_false true true offset entry_count r f (inr h) = absurd (grind (arith, nat_tests))

-- `may_enter` is false for exactly the suffixes that are kept out.
pub may_enter_unless_kept_out : MayEnterUnlessKeptOut
may_enter_unless_kept_out Plain offset entry_count = (λ h. tt, λ h. refl)
may_enter_unless_kept_out Static offset entry_count =
    (static_kept_out (nat_lt offset 16384) (nat_lt entry_count 24) offset entry_count refl refl, static_test_false (nat_lt offset 16384) (nat_lt entry_count 24) offset entry_count refl refl)
may_enter_unless_kept_out Tree offset entry_count = (λ h. grind (arith, nat_tests), λ h. grind (arith, nat_tests))
may_enter_unless_kept_out Hash offset entry_count = (λ h. absurd (cc), λ h. absurd h)

-- Under hash, all suffixes of a name enter the table, or none.
pub hash_adds_all_or_none : HashAddsAllOrNone
hash_adds_all_or_none = record {
  all = λ suffixes h. chosen suffixes true (list_all-from_AllPass in_range suffixes (λ k d l. let below = h k d l in grind (arith, nat_tests)));
  none = λ suffixes h. chosen suffixes false (list_all_at in_range suffixes h.0 h.1 h.2 (far (slice_index_or suffixes h.0 h.1) h.1 h.3 h.4));
}
  where
    in_range : Suffix → Bool
    in_range suffix = nat_lt suffix.offset 16384

    chosen : (suffixes : List Suffix) (b : Bool) → list_all in_range suffixes ≡ b → entering_suffixes Hash suffixes ≡ (if b then suffixes else [])
    chosen suffixes b e = ap (λ (t : Bool). if t then suffixes else []) e

    far : (s suffix : Suffix) → s ≡ suffix → 16384 ≤ suffix.offset → in_range s ≡ false
    far s suffix e h = let same = ap (λ (x : Suffix). x.offset) e in grind (arith, nat_tests)
