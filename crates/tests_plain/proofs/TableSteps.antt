-- Plain tables, and names that are compressed by them. RFC 1035 section 4.1.4.
use Rattle.std.proofs.Common.{◌≡◌, ◌≢◌, ℕ, ◌+◌, ◌<◌, Bool, true, false, cond, List, [], ◌∷◌, ◌++◌, length, ap, sym, ◌∙◌, subst, refl, arith, inl, inr, ◌⊎◌, append_assoc, length-append}
use Rattle.std.specs.Prelude.{Option, Some, None, is_some, option_map, nat_lt, ◌&&◌}
use Rattle.std.specs.Borrow.{Bor}
use Rattle.std.specs.List.{list_all, AllZip}
use Rattle.std.specs.FinMap.{get, insert, len, from_entries, get-empty, len-insert}
use Rattle.std.proofs.lemmas.Bool.{and_parts}
use Rattle.std.proofs.lemmas.Grind.{common_steps}
use Rattle.std.proofs.lemmas.Slice.Zip.{AllZip-long}
use Rattle.dns_name.specs.Names.{Labels, framed, uncompressed, pointer_end}
use Rattle.dns_name.specs.Unique.{same_name}
use Rattle.dns_name.proofs.theory.UncompressedNames.{name_at_uncompressed, name_tail}
use Rattle.dns_wire.specs.Encoders.{CompressionTable, TableEntry, Rule, Plain, Static, Tree, Hash, CompressedName, Suffix as WrittenSuffix, nothing, suffix_cmp}
use Rattle.dns_wire.specs.Encoders.{suffix_total, may_enter, compress, compress_label, add_suffixes, encode_name}
use Rattle.dns_wire.specs.Targets.{Written, append}
use Rattle.dns_wire.proofs.theory.CompressionTables.{get-insert_same, get-insert_other, insert_cases, AreShorter, get-add_suffixes_longer}
use Rattle.dns_wire.proofs.theory.EncodedNames.{CompressesAs, compresses_as}
use Rattle.dns_wire.proofs.theory.EncodedNames.CompressesAs.{at_root, at_entry, at_kept, at_far}
use Rattle.tests_plain.specs.PlainNames.{IsNamed, IsEntry, IsSuffix, AppendsCompressed, ListsTable, IsInRange, SplitsFirst, Compresses, Represents, rule_of}
use Rattle.tests_plain.specs.declared.writing.Suffix.{Suffix}
use Rattle.tests_plain.specs.declared.writing.PlainTarget.{PlainTarget}
use Rattle.tests_plain.specs.declared.writing.PlainRule as plain
use Rattle.tests_plain.specs.declared.writing.PlainRule.TheVariants as rules

-- Related lists have the same length.
pub same_count : {X Y : Type 0} (R : X → Y → Type 0) (xs : List X) (ys : List Y) → AllZip R xs ys → length xs ≡ length ys
same_count R xs ys is = sym (AllZip-long R xs ys is)

-- Names with the same octets are the same.
same_labels : (octets : List ℕ) (m n : Labels) → IsNamed octets m → IsNamed octets n → m ≡ n
same_labels b m n x y = same_name b (name_at_uncompressed b 0 m x.is_name (sym x.whole)) (name_at_uncompressed b 0 n y.is_name (sym y.whole))

-- The offset of an entry.
abbrev pub offset_in : Option TableEntry → Option ℕ
offset_in entry = option_map (λ entry. entry.offset) entry

-- No name is in a table without entries.
pub finds_none : (table : List Suffix) (m : CompressionTable) (labels : Labels) → length table ≡ 0 → ListsTable table m → None ≡ offset_in (get m labels)
finds_none (s ∷ ss) m labels none t = absurd (omega arith)
finds_none [] m labels none t = go t.entries t.listed t.whole
  where
    go : (entries : List (Labels × TableEntry)) → AllZip IsEntry [] entries → m ≡ from_entries entries → None ≡ offset_in (get m labels)
    go [] l w = sym (ap (λ (m : CompressionTable). offset_in (get m labels)) w ∙ ap offset_in (get-empty suffix_cmp labels))
    go (e ∷ es) l w = absurd l

-- An empty list is the empty table.
pub lists_nothing : ListsTable [] nothing
lists_nothing = record { entries = []; listed = tt; whole = refl }

-- An empty table is in range.
pub nothing_in_range : IsInRange nothing
nothing_in_range = record { each = λ s x e. let none : None ≡ Some x = sym (get-empty suffix_cmp s) ∙ e in absurd (cc) }

-- The newest entry of a table, and the table before it.
pub record Newest (first : Suffix) (older : List Suffix) (m : CompressionTable) : Type 0 where
  pub key : Labels
  pub entry : TableEntry
  pub before : CompressionTable
  pub named : IsNamed first.name.items key
  pub offset : first.offset ≡ entry.offset
  pub lists : ListsTable older before
  pub whole : m ≡ insert before key entry

-- The first entry of a list is the newest of its name.
pub newest : (table : List Suffix) (first : Suffix) (older : List Suffix) (m : CompressionTable) → table ≡ first ∷ older → ListsTable table m → Newest first older m
newest table first older m e t = go t.entries (subst (λ xs. AllZip IsEntry xs t.entries) e t.listed) t.whole
  where
    go : (entries : List (Labels × TableEntry)) → AllZip IsEntry (first ∷ older) entries → m ≡ from_entries entries → Newest first older m
    go [] l w = absurd l
    go (e ∷ es) l w = record {
      key = e.0;
      entry = e.1;
      before = from_entries es;
      named = l.0.named;
      offset = l.0.offset;
      lists = record { entries = es; listed = l.1; whole = refl };
      whole = w;
    }

module _ (first : Suffix) (older : List Suffix) (m : CompressionTable) (n : Newest first older m) where
  -- The name is the newest.
  pub finds_newest : (name : List ℕ) (labels : Labels) → first.name.items ≡ name → IsNamed name labels → Some first.offset ≡ offset_in (get m labels)
  finds_newest name labels e is =
      let same : n.key ≡ labels = same_labels name n.key labels (subst (λ octets. IsNamed octets n.key) e n.named) is in
      let found : get m n.key ≡ Some n.entry = ap (λ (m : CompressionTable). get m n.key) n.whole ∙ get-insert_same n.before n.key n.entry in
      ap (λ p. Some p) n.offset ∙ sym (ap offset_in (ap (get m) (sym same) ∙ found))

  -- The name is another.
  pub finds_older : (name : List ℕ) (labels : Labels) (found : Option ℕ) → first.name.items ≢ name → IsNamed name labels → found ≡ offset_in (get n.before labels) → found ≡ offset_in (get m labels)
  finds_older name labels found differs is e =
      let other : labels ≢ n.key = λ same. differs (n.named.whole ∙ ap uncompressed (sym same) ∙ sym is.whole) in
      e ∙ sym (ap offset_in (ap (λ (m : CompressionTable). get m labels) n.whole ∙ get-insert_other n.before n.key n.entry labels other))

-- Compressing a name that begins with a label, if it isn't in the table and may enter it.
module _ (rule : Rule) (m : CompressionTable) (offset entry_count : ℕ) (label : List ℕ) (parent : Labels) where
  abbrev after : CompressedName
  after = compress rule m (offset + 1 + length label) (entry_count + 1) parent

  -- If the label and then the compressed parent are appended, so is the compressed name, and its first suffix is the name itself.
  pub with_label : (old mid new : List ℕ) (first : Suffix) (others suffixes : List Suffix) → get m (label ∷ parent) ≡ None → may_enter rule offset entry_count ≡ true
      → mid ≡ old ++ framed label → AppendsCompressed mid new others after → IsNamed first.name.items (label ∷ parent) → first.offset ≡ offset → suffixes ≡ first ∷ others
      → AppendsCompressed old new suffixes (compress rule m offset entry_count (label ∷ parent))
  with_label old mid new first others suffixes none enters octets is named at all =
      let suffix : WrittenSuffix = record { labels = label ∷ parent; offset = offset } in
      let P : Option TableEntry → Bool → Type 0 = λ o b. AppendsCompressed old new suffixes (compress_label o b label suffix after) in
      let each : AllZip IsSuffix (first ∷ others) (suffix ∷ after.suffixes) = (record { named = named; offset = at }, is.suffixes) in
      let made : P None true = record {
        octets = is.octets ∙ ap (λ xs. xs ++ after.octets) octets ∙ append_assoc old (framed label) after.octets;
        suffixes = subst (λ xs. AllZip IsSuffix xs (suffix ∷ after.suffixes)) (sym all) each;
      } in
      subst (λ o. P o (may_enter rule offset entry_count)) (sym none) (subst (λ b. P None b) (sym enters) made)

-- Only a missing entry has no offset.
no_entry : (o : Option TableEntry) → offset_in o ≡ None → o ≡ None
no_entry None e = refl
no_entry (Some x) e = absurd (cc)

-- Compressing a name that is split after its first label.
pub compresses_first : (rule : Rule) (m : CompressionTable) (offset entry_count : ℕ) (labels : Labels) (name : List ℕ) (parts : Bor (List ℕ) × Bor (List ℕ))
    (old mid new : List ℕ) (first : Suffix) (others suffixes : List Suffix)
    → IsNamed name labels → SplitsFirst labels (Some parts) → offset_in (get m labels) ≡ None → may_enter rule offset entry_count ≡ true → offset ≡ length old → mid ≡ old ++ parts.0.now
    → ((parent : Labels) → IsNamed parts.1.now parent → AppendsCompressed mid new others (compress rule m (length mid) (entry_count + 1) parent))
    → first.name.items ≡ name → first.offset ≡ offset → suffixes ≡ first ∷ others
    → AppendsCompressed old new suffixes (compress rule m (length old) entry_count labels)
compresses_first rule m offset entry_count [] name parts old mid new first others suffixes is split none enters here octets more same at all = absurd (cc)
compresses_first rule m offset entry_count (label ∷ parent) name parts old mid new first others suffixes is split none enters here octets more same at all =
    let whole : mid ≡ old ++ framed label = octets ∙ ap (λ xs. old ++ xs) split.0 in
    let named : IsNamed parts.1.now parent = record { is_name = (name_tail label parent is.is_name).1; whole = split.1 } in
    let size = ap (λ (xs : List ℕ). length xs) whole ∙ length-append old (framed label) in
    let next : length mid ≡ offset + 1 + length label = omega (arith, size, here) in
    let after_is = subst (λ k. AppendsCompressed mid new others (compress rule m k (entry_count + 1) parent)) next (more parent named) in
    subst (λ k. AppendsCompressed old new suffixes (compress rule m k entry_count (label ∷ parent))) here
    (with_label rule m offset entry_count label parent old mid new first others suffixes (no_entry _ none) enters whole after_is (subst (λ xs. IsNamed xs (label ∷ parent)) (sym same) is) at all)

-- The suffixes of a name are added to a table.
pub adds : (suffixes : List Suffix) (written : List WrittenSuffix) (table : List Suffix) (m : CompressionTable) (end : ℕ) → AllZip IsSuffix suffixes written → ListsTable table m
    → ListsTable (suffixes ++ table) (add_suffixes m written end)
adds [] [] table m end each t = t
adds [] (w ∷ ws) table m end each t = absurd each
adds (s ∷ ss) [] table m end each t = absurd each
adds (s ∷ ss) (w ∷ ws) table m end each t =
    let others = adds ss ws table m end each.1 t in
    let entry : TableEntry = record { offset = w.offset; end = end } in
    record {
      entries = (w.labels, entry) ∷ others.entries;
      listed = (record { named = each.0.named; offset = each.0.offset }, others.listed);
      whole = ap (λ (m : CompressionTable). insert m w.labels entry) others.whole;
    }

-- The suffixes of a name are shorter than it, or it.
shorter_than : {rule : Rule} {m : CompressionTable} {p entry_count : ℕ} {name : Labels} {text : List ℕ} {ss : List WrittenSuffix} (n : ℕ)
    → CompressesAs rule m p entry_count name text ss → length name < n → AreShorter n ss
shorter_than n at_root l = tt
shorter_than n (at_entry e) l = tt
shorter_than n (at_kept e k s) l = (l, shorter_than n s (omega arith))
shorter_than n (at_far e k) l = tt

added_one : (m : CompressionTable) (s : Labels) (x : TableEntry) → get m s ≡ None → len (insert m s x) ≡ len m + 1
added_one m s x none = len-insert suffix_total m s x ∙ ap (λ (o : Option TableEntry). cond (is_some o) (len m) (len m + 1)) none

-- Each suffix that is added is a new entry.
count_as : {rule : Rule} {m : CompressionTable} {p entry_count : ℕ} {name : Labels} {text : List ℕ} {ss : List WrittenSuffix} (end : ℕ)
    → CompressesAs rule m p entry_count name text ss → len (add_suffixes m ss end) ≡ length ss + len m
count_as {m = m} end at_root = omega arith
count_as {m = m} end (at_entry e) = omega arith
count_as {m = m} end (at_kept {p = p} {first = first} {rest = rest} {ss = ss} e k s) =
    let others = count_as end s in
    let new = get-add_suffixes_longer m ss end (first ∷ rest) e (shorter_than (length (first ∷ rest)) s (omega arith)) in
    let one = added_one (add_suffixes m ss end) (first ∷ rest) (record { offset = p; end = end }) new in
    one ∙ omega (arith, others)
count_as {m = m} end (at_far e k) = omega arith

-- The table and the suffixes are as long as the table after them.
adds_count : (suffixes : List Suffix) (written : List WrittenSuffix) (table : List Suffix) (m : CompressionTable) (end : ℕ) → AllZip IsSuffix suffixes written
    → length table ≡ len m → len (add_suffixes m written end) ≡ length written + len m
    → length (suffixes ++ table) ≡ len (add_suffixes m written end)
adds_count suffixes written table m end each t added =
    let joined = length-append suffixes table in
    let same = same_count IsSuffix suffixes written each in
    omega (arith, joined, same, t, added)

-- A pointer can hold the offset.
abbrev pub is_in_range : WrittenSuffix → Bool
is_in_range suffix = nat_lt suffix.offset pointer_end

-- If a pointer can hold the offset of each, it still can after they are added.
pub adds_in_range : (m : CompressionTable) (written : List WrittenSuffix) (end : ℕ) → IsInRange m → list_all is_in_range written ≡ true → IsInRange (add_suffixes m written end)
adds_in_range m [] end r all = r
adds_in_range m (w ∷ ws) end r all =
    let parts = and_parts _ _ all in
    let others = adds_in_range m ws end r parts.1 in
    record { each = λ s x e. by_case s x e (insert_cases (add_suffixes m ws end) w.labels (record { offset = w.offset; end = end }) s) others parts.0 }
  where
    by_case : (s : Labels) (x : TableEntry) → get (add_suffixes m (w ∷ ws) end) s ≡ Some x
        → ((s ≡ w.labels) × (get (add_suffixes m (w ∷ ws) end) s ≡ Some (record { offset = w.offset; end = end }))) ⊎ (get (add_suffixes m (w ∷ ws) end) s ≡ get (add_suffixes m ws end) s)
        → IsInRange (add_suffixes m ws end) → is_in_range w ≡ true → x.offset < pointer_end
    by_case s x e (inl k) r first =
        let entry : TableEntry = record { offset = w.offset; end = end } in
        let same : Some x ≡ Some entry = sym e ∙ k.1 in
        let at : x ≡ entry = cc in
        let q = ap (λ (y : TableEntry). y.offset) at in
        let l : w.offset < pointer_end = grind (arith, common_steps) in
        omega arith
    by_case s x e (inr k) r first = r.each s x (sym k ∙ e)

-- Under the static and the tree rule, a suffix may enter only if a pointer can hold its offset.
abbrev pub EntersInRange : Rule → Type 0
EntersInRange rule = (offset entry_count : ℕ) → may_enter rule offset entry_count ≡ true → nat_lt offset pointer_end ≡ true

-- A static compressor enters suffixes in range alone.
pub static_in_range : EntersInRange Static
static_in_range offset entry_count e = (and_parts _ _ e).0

-- A tree compressor enters suffixes in range alone.
pub tree_in_range : EntersInRange Tree
tree_in_range offset entry_count e = e

in_range_as : {rule : Rule} {m : CompressionTable} {p entry_count : ℕ} {name : Labels} {text : List ℕ} {ss : List WrittenSuffix} → EntersInRange rule → CompressesAs rule m p entry_count name text ss
    → list_all is_in_range ss ≡ true
in_range_as f at_root = refl
in_range_as f (at_entry e) = refl
in_range_as f (at_kept {p = p} {entry_count = entry_count} {ss = ss} e k s) = ap (λ b. b && list_all is_in_range ss) (f p entry_count k) ∙ in_range_as f s
in_range_as f (at_far e k) = refl

-- So all suffixes that are written are in range.
pub written_in_range : (rule : Rule) (m : CompressionTable) (p entry_count : ℕ) (name : Labels) → EntersInRange rule → list_all is_in_range (compress rule m p entry_count name).suffixes ≡ true
written_in_range rule m p entry_count name f = in_range_as f (compresses_as rule m p entry_count name)

-- A pointer can hold the offset of each plain suffix.
abbrev pub each_in_range : List Suffix → Bool
each_in_range suffixes = list_all (λ suffix. nat_lt suffix.offset pointer_end) suffixes

same_range : (suffixes : List Suffix) (written : List WrittenSuffix) → AllZip IsSuffix suffixes written → each_in_range suffixes ≡ list_all is_in_range written
same_range [] [] each = refl
same_range [] (w ∷ ws) each = absurd each
same_range (s ∷ ss) [] each = absurd each
same_range (s ∷ ss) (w ∷ ws) each = (λ i. nat_lt (each.0.offset i) pointer_end && same_range ss ws each.1 i)

module _ (old new : PlainTarget) (labels : Labels) (w : Written) (r : Represents old w) where
  -- An uncompressed name is appended.
  pub appends_plain : (name : List ℕ) → IsNamed name labels → new.octets.items ≡ old.octets.items ++ name → new.table ≡ old.table → Represents new (append (encode_name Plain labels) w)
  unfolding encode_name
  appends_plain name is octets table = record {
    octets = octets ∙ ap (λ xs. xs ++ name) r.octets ∙ ap (λ xs. w.octets ++ xs) is.whole;
    table = subst (λ t. ListsTable t.items w.table) (sym table) r.table;
    count = ap (λ t. length t.items) table ∙ r.count;
    in_range = r.in_range;
  }

  abbrev compressed_by : Rule → CompressedName
  compressed_by rule = compress rule w.table (length w.octets) (len w.table) labels

  -- A compressed name is appended, and its suffixes enter the table, or none does.
  with_entering : (rule : Rule) (suffixes : List Suffix) (end : ℕ) (b : Bool) → list_all is_in_range (compressed_by rule).suffixes ≡ b
      → AppendsCompressed old.octets.items new.octets.items suffixes (compressed_by rule)
      → new.table.items ≡ cond b (suffixes ++ old.table.items) old.table.items
      → Represents new (record { octets = w.octets ++ (compressed_by rule).octets; table = add_suffixes w.table (cond b (compressed_by rule).suffixes []) end })
  with_entering rule suffixes end true all is table =
      let written = (compressed_by rule).suffixes in
      let added = count_as end (compresses_as rule w.table (length w.octets) (len w.table) labels) in
      record {
        octets = is.octets ∙ ap (λ xs. xs ++ (compressed_by rule).octets) r.octets;
        table = subst (λ t. ListsTable t (add_suffixes w.table written end)) (sym table) (adds suffixes written old.table.items w.table end is.suffixes r.table);
        count = ap (λ (t : List Suffix). length t) table ∙ adds_count suffixes written old.table.items w.table end is.suffixes r.count added;
        in_range = adds_in_range w.table written end r.in_range all;
      }
  with_entering rule suffixes end false all is table = record {
    octets = is.octets ∙ ap (λ xs. xs ++ (compressed_by rule).octets) r.octets;
    table = subst (λ t. ListsTable t w.table) (sym table) r.table;
    count = ap (λ (t : List Suffix). length t) table ∙ r.count;
    in_range = r.in_range;
  }

  -- If a compressed name is appended, and its suffixes enter the table where all are in range, its encoding is appended.
  pub appends_compressed : (rule : plain.PlainRule) (suffixes : List Suffix) (b : Bool) → rule ≢ rules.Plain
      → AppendsCompressed old.octets.items new.octets.items suffixes (compressed_by (rule_of rule))
      → b ≡ list_all is_in_range (compressed_by (rule_of rule)).suffixes
      → new.table.items ≡ cond b (suffixes ++ old.table.items) old.table.items
      → Represents new (append (encode_name (rule_of rule) labels) w)
  unfolding encode_name
  appends_compressed rules.Plain suffixes b other is all table = absurd (other refl)
  appends_compressed rules.Static suffixes b other is all table =
      let fits = written_in_range Static w.table (length w.octets) (len w.table) labels static_in_range in
      with_entering Static suffixes _ true fits is (table ∙ ap (λ c. cond c (suffixes ++ old.table.items) old.table.items) (all ∙ fits))
  appends_compressed rules.Tree suffixes b other is all table =
      let fits = written_in_range Tree w.table (length w.octets) (len w.table) labels tree_in_range in
      with_entering Tree suffixes _ true fits is (table ∙ ap (λ c. cond c (suffixes ++ old.table.items) old.table.items) (all ∙ fits))
  appends_compressed rules.Hash suffixes b other is all table =
      with_entering Hash suffixes _ _ refl is (table ∙ ap (λ c. cond c (suffixes ++ old.table.items) old.table.items) all)

  -- The same, of what compressing the name at the end of the octets returned.
  pub appends_name : (rule : plain.PlainRule) (name : List ℕ) (suffixes : List Suffix) (entry_count : ℕ) (b : Bool) → rule ≢ rules.Plain → IsNamed name labels
      → entry_count ≡ length old.table.items → Compresses (rule_of rule) name entry_count old new.octets.items suffixes
      → b ≡ each_in_range suffixes → new.table.items ≡ cond b (suffixes ++ old.table.items) old.table.items
      → Represents new (append (encode_name (rule_of rule) labels) w)
  appends_name rule name suffixes entry_count b other named count is all table =
      let here = subst (λ (xs : List ℕ). AppendsCompressed old.octets.items new.octets.items suffixes
      (compress (rule_of rule) w.table (length xs) entry_count labels)) r.octets (is labels w.table named r.table r.in_range) in
      let same = subst (λ k. AppendsCompressed old.octets.items new.octets.items suffixes (compress (rule_of rule) w.table (length w.octets) k labels)) (count ∙ r.count) here in
      appends_compressed rule suffixes b other same (all ∙ same_range suffixes _ same.suffixes) table
