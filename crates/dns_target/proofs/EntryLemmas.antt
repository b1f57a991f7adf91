-- Table entries whose names are read from the octets.
use Rattle.std.proofs.Common.{◌≡◌, ℕ, zero, suc, ◌+◌, ◌<◌, ◌≤◌, nat_le, Bool, true, false, cond, Option, Some, None, List, [], ◌∷◌, length, drop, ap, sym, ◌∙◌, refl, arith, inl, inr, ◌⊎◌}
use Rattle.std.specs.Prelude.{is_some}
use Rattle.std.proofs.lemmas.Bool.Decides.{nat_tests}
use Rattle.std.specs.FinMap.{get, insert, len, from_entries, get-empty, len-empty, len-insert}
use Rattle.dns_name.specs.Names.{Fault, Labels, name_size, max_size, NameAt, Faulty}
use Rattle.dns_wire.specs.Encoders.{suffix_cmp, suffix_total, TableEntry, CompressionTable, cut, add_suffixes, IsWithin, Suffix}
use Rattle.dns_wire.specs.TargetLaws.{NameAtWithin}
use Rattle.dns_wire.proofs.theory.Stability.{name_at_within}
use Rattle.dns_wire.specs.Targets.{Labelled, IsTableOf}
use Rattle.dns_name.specs.Unique.{same_name, encoded_short}
use Rattle.dns_wire.specs.Choice.{first_suffixes}
use Rattle.dns_name.proofs.theory.NameOrFaultLaws.{one_answer, not_both}
use Rattle.dns_wire.proofs.theory.TargetTheorems.{entries_are_names}
use Rattle.dns_wire.proofs.theory.CompressionTables.{cut-within, cut_nothing, get-insert_same, get-insert_other, insert_cases, cut-insert_late, AreShorter, get-add_suffixes_longer}
use Rattle.dns_target.specs.TableEntries.{AreAdded, with_names, table_entries, name_of, name_in, named, table_in, AreNew, last_end}
use Rattle.dns_target.specs.TableEntries.{AreOrdered, cut_table_entries, with_suffixes, FirstLabelAt, AreNamesAt}
use Rattle.dns_target.proofs.NewestFirst.{cut_keeps}

inside_by : {b : List ℕ} {lo hi p : ℕ} {n : Labels} → NameAtWithin b lo hi p n → p < hi
inside_by (NameAtWithin.root l h e) = omega arith
inside_by (NameAtWithin.label {n = k} l h e s small) = omega arith
inside_by (NameAtWithin.pointer l h e back s) = omega arith

-- an encoded name begins within the octets
pub name_at_inside : {b : List ℕ} {p : ℕ} {n : Labels} → NameAt b p n → p < length b
name_at_inside s = inside_by (name_at_within s)

name_by : (b : List ℕ) (p : ℕ) (n : Labels) → NameAt b p n
    → (a : ((name : Labels) × NameAt b p name × (0 + name_size name ≤ max_size)) ⊎ ((f : Fault) × Faulty b p 0 f)) → name_of a ≡ n
name_by b p n s (inl a) = same_name b a.1 s
name_by b p n s (inr a) = absurd (not_both b a.1 n s (omega (arith, encoded_short s)))

-- the name encoded at an offset is `name_in` there
pub name_in-encoded : (b : List ℕ) (p : ℕ) (n : Labels) → NameAt b p n → name_in b p ≡ n
unfolding name_in
name_in-encoded b p n s = name_by b p n s (one_answer b p)

-- a suffix in the table is the name at its offset
pub name_in-kept : (b : List ℕ) (m : CompressionTable) (s : Labels) (x : TableEntry) → IsTableOf b m → get m s ≡ Some x → name_in b x.offset ≡ s
name_in-kept b m s x r e = name_in-encoded b x.offset s (entries_are_names b m s x r e).encoded

-- each of the names is in the table with its entry
abbrev pub AllGet : CompressionTable → List (Labels × TableEntry) → Type 0
AllGet m [] = Unit {0}
AllGet m (p ∷ ps) = (get m p.0 ≡ Some p.1) × AllGet m ps

all_more : (m : CompressionTable) (k : Labels) (x : TableEntry) (ps : List (Labels × TableEntry)) → get m k ≡ None → AllGet m ps → AllGet (insert m k x) ps
all_more m k x [] none h = tt
all_more m k x (p ∷ ps) none h =
    (get-insert_other m k x p.0 (λ e. let z : Some p.1 ≡ None = sym h.0 ∙ ap (get m) e ∙ none in cc) ∙ h.0, all_more m k x ps none h.1)

-- names that all differ are all in the table
pub all_get : (ps : List (Labels × TableEntry)) → AreNew ps → AllGet (from_entries {R = suffix_cmp} ps) ps
all_get [] h = tt
all_get (p ∷ ps) h = (get-insert_same (from_entries ps) p.0 p.1, all_more (from_entries ps) p.0 p.1 ps h.0 (all_get ps h.1))

-- The entries of a table, each with its name, are these entries.
pub table_entries-named : (b : List ℕ) (xs : List TableEntry) → table_entries (named b xs) ≡ xs
table_entries-named b [] = refl
table_entries-named b (x ∷ xs) = ap (λ (ys : List TableEntry). x ∷ ys) (table_entries-named b xs)

-- if the suffixes of the table are encoded in the octets, they are read at the entries' offsets
pub named-table_entries : (c : List ℕ) (m : CompressionTable) (ps : List (Labels × TableEntry)) → IsTableOf c m → AllGet m ps → named c (table_entries ps) ≡ ps
named-table_entries c m [] r h = refl
named-table_entries c m (p ∷ ps) r h =
    let here : name_in c p.1.offset ≡ p.0 = name_in-kept c m p.0 p.1 r h.0 in
    let more = named-table_entries c m ps r h.1 in
    λ i. (here i, p.1) ∷ more i

-- so they are the same as in the octets from which the table was read
pub named_again : (b c : List ℕ) (m : CompressionTable) (xs : List TableEntry) → IsTableOf c m → AllGet m (named b xs) → named c xs ≡ named b xs
named_again b c m xs r h = ap (named c) (sym (table_entries-named b xs)) ∙ named-table_entries c m (named b xs) r h

-- the table has as many entries as there are names
pub len-entries : (ps : List (Labels × TableEntry)) → AreNew ps → len (from_entries {R = suffix_cmp} ps) ≡ length ps
len-entries [] h = len-empty suffix_cmp TableEntry
len-entries (p ∷ ps) h =
    len-insert suffix_total (from_entries ps) p.0 p.1 ∙ ap (λ (o : Option TableEntry). cond (is_some o) (len (from_entries {R = suffix_cmp} ps)) (len (from_entries {R = suffix_cmp} ps) + 1)) h.0
    ∙ (let z = len-entries ps h.1 in omega arith)

length-named : (b : List ℕ) (xs : List TableEntry) → length (named b xs) ≡ length xs
length-named b [] = refl
length-named b (x ∷ xs) = ap (λ n. suc n) (length-named b xs)

-- the table has as many entries as there are offsets
pub len-table : (b : List ℕ) (xs : List TableEntry) → AreNew (named b xs) → len (table_in b xs) ≡ length xs
len-table b xs h = len-entries (named b xs) h ∙ length-named b xs

first_label_at : (m : CompressionTable) (b : List ℕ) (q p : ℕ) (n : Labels) → Labelled m b q p n → FirstLabelAt b p n
first_label_at m b q p [] h = absurd h
first_label_at m b q p (label ∷ others) h = h.1

names_at_by : (b : List ℕ) (m : CompressionTable) (xs : List TableEntry) → IsTableOf b m → AllGet m (named b xs) → AreNamesAt b xs
names_at_by b m [] r h = tt
names_at_by b m (x ∷ xs) r h = (
  record {
    label = first_label_at m b x.end x.offset (name_in b x.offset) (r.each (name_in b x.offset) x h.0).compressed;
    encoded = (entries_are_names b m (name_in b x.offset) x r h.0).encoded;
  },
  names_at_by b m xs r h.1,
)

-- the name of each entry begins with a label at its offset
pub all_names_at : (b : List ℕ) (xs : List TableEntry) → AreNew (named b xs) → IsTableOf b (table_in b xs) → AreNamesAt b xs
all_names_at b xs h r = names_at_by b (table_in b xs) xs r (all_get (named b xs) h)

-- each name in the table ends by the end of the newest
pub within_last : (b : List ℕ) (xs : List TableEntry) → AreOrdered xs → IsWithin (table_in b xs) (last_end xs)
within_last b [] h s x e = absurd (let no_table_entry : None ≡ Some x = sym (get-empty suffix_cmp s) ∙ e in cc)
within_last b (y ∷ ys) h s x e = within_by (insert_cases (table_in b ys) (name_in b y.offset) y s) (λ k. within_last b ys h.1 s x k)
  where
    within_by : ((s ≡ name_in b y.offset) × (get (table_in b (y ∷ ys)) s ≡ Some y)) ⊎ (get (table_in b (y ∷ ys)) s ≡ get (table_in b ys) s)
        → (get (table_in b ys) s ≡ Some x → x.end ≤ last_end ys) → x.end ≤ y.end
    within_by (inl k) f = let z : Some y ≡ Some x = sym k.1 ∙ e in let same : y ≡ x = cc in let t = ap (λ (v : TableEntry). v.end) same in omega arith
    within_by (inr k) f = let z : x.end ≤ last_end ys = f (sym k ∙ e) in omega (arith, h.0)

-- the newest name is in the table, so it ends within n
pub last_within : (b : List ℕ) (xs : List TableEntry) (n : ℕ) → IsWithin (table_in b xs) n → last_end xs ≤ n
last_within b [] n h = omega arith
last_within b (x ∷ xs) n h = h (name_in b x.offset) x (get-insert_same (table_in b xs) (name_in b x.offset) x)

-- removing the newest entries cuts the table
pub cut-table : (b : List ℕ) (xs : List TableEntry) (len : ℕ) → AreNew (named b xs) → AreOrdered xs → table_in b (cut_table_entries len xs) ≡ cut (table_in b xs) len
cut-table b [] len h o = sym (cut_nothing len)
cut-table b (x ∷ xs) len h o = cut_by (nat_le x.end len) refl (cut-table b xs len h.1 o.1)
  where
    cut_by : (t : Bool) → nat_le x.end len ≡ t → table_in b (cut_table_entries len xs) ≡ cut (table_in b xs) len
        → table_in b (cond t (x ∷ xs) (cut_table_entries len xs)) ≡ cut (table_in b (x ∷ xs)) len
    cut_by true is f = let l : x.end ≤ len = grind (arith, nat_tests) in sym (cut-within (table_in b (x ∷ xs)) len (λ s y e. let k : y.end ≤ x.end = within_last b (x ∷ xs) o s y e in omega arith))
    cut_by false is f = let l : len < x.end = grind (arith, nat_tests) in f ∙ sym (cut-insert_late (table_in b xs) (name_in b x.offset) x len h.0 l)

-- the names that are left all differ
pub cut-new : (b : List ℕ) (xs : List TableEntry) (len : ℕ) → AreNew (named b xs) → AreNew (named b (cut_table_entries len xs))
cut-new b xs len h = cut_keeps (λ (x : TableEntry). x.end) len (λ ys. AreNew (named b ys)) (λ y ys k. k.1) xs h

-- and stay in order
pub cut-ordered : (xs : List TableEntry) (len : ℕ) → AreOrdered xs → AreOrdered (cut_table_entries len xs)
cut-ordered xs len h = cut_keeps (λ (x : TableEntry). x.end) len (λ ys. AreOrdered ys) (λ y ys k. k.1) xs h

-- the entries of names with further suffixes
pub table_entries-with_names : (ps : List (Labels × TableEntry)) (ss : List Suffix) (end : ℕ) → table_entries (with_names ps ss end) ≡ with_suffixes (table_entries ps) ss end
table_entries-with_names ps [] end = refl
table_entries-with_names ps (s ∷ ss) end = ap (λ (ys : List TableEntry). record { offset = s.offset; end = end } ∷ ys) (table_entries-with_names ps ss end)

-- the table with further suffixes
pub entries-with_names : (ps : List (Labels × TableEntry)) (ss : List Suffix) (end : ℕ)
    → from_entries {R = suffix_cmp} (with_names ps ss end) ≡ add_suffixes (from_entries ps) ss end
entries-with_names ps [] end = refl
entries-with_names ps (s ∷ ss) end = ap (λ (m : CompressionTable). insert m s.labels (record { offset = s.offset; end = end })) (entries-with_names ps ss end)

-- if each further suffix is new, all names differ
pub with_names-new : (ps : List (Labels × TableEntry)) (ss : List Suffix) (end : ℕ) → AreNew ps → AreAdded (from_entries {R = suffix_cmp} ps) ss end → AreNew (with_names ps ss end)
with_names-new ps [] end h a = h
with_names-new ps (s ∷ ss) end h a = (ap (λ (m : CompressionTable). get m s.labels) (entries-with_names ps ss end) ∙ a.0, with_names-new ps ss end h a.1)

-- no name ends before an older one
pub with_suffixes-ordered : (xs : List TableEntry) (ss : List Suffix) (end : ℕ) → AreOrdered xs → last_end xs ≤ end
    → AreOrdered (with_suffixes xs ss end) × (last_end (with_suffixes xs ss end) ≤ end)
with_suffixes-ordered xs [] end h l = (h, l)
with_suffixes-ordered xs (s ∷ ss) end h l = let more = with_suffixes-ordered xs ss end h l in ((more.1, more.0), omega arith)

shorter_suffixes : (c : ℕ) (name : Labels) (w n : ℕ) → length name < n → AreShorter n (first_suffixes c name w)
shorter_suffixes zero name w n l = tt
shorter_suffixes (suc c) [] w n l = tt
shorter_suffixes (suc c) (label ∷ parent) w n l = (l, shorter_suffixes c parent (w + 1 + length label) n (omega arith))

-- the first suffixes of a name are new if none of them is in the table
pub first_suffixes-new : (m : CompressionTable) (c : ℕ) (name : Labels) (w end : ℕ) → ((k : ℕ) → k < c → get m (drop k name) ≡ None) → AreAdded m (first_suffixes c name w) end
first_suffixes-new m zero name w end h = tt
first_suffixes-new m (suc c) [] w end h = tt
first_suffixes-new m (suc c) (label ∷ parent) w end h = (
  get-add_suffixes_longer m (first_suffixes c parent (w + 1 + length label)) end (label ∷ parent) (h 0 (omega arith))
      (shorter_suffixes c parent (w + 1 + length label) (length (label ∷ parent)) (omega arith)),
  first_suffixes-new m c parent (w + 1 + length label) end (λ k l. h (suc k) (omega arith)),
)
