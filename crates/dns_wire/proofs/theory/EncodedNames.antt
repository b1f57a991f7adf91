-- A written name is encoded where it was written, and the table after it is sound.
use Rattle.std.proofs.Common.{◌≡◌, ℕ, ◌+◌, ◌≤◌, ◌<◌, Bool, true, false, cond, Option, Some, None, List, [], ◌∷◌, ◌++◌, length, length-append, refl, arith, ◌⊎◌, inl, inr, ap, sym, ◌∙◌, subst}
use Rattle.std.specs.FinMap.{get, len, get-insert}
use Rattle.std.specs.Prelude.{Option, Some, None, nat_lt}
use Rattle.std.specs.List.{list_all}
use Rattle.std.proofs.lemmas.Bool.{and_parts}
use Rattle.std.proofs.lemmas.Grind.{common_steps}
use Rattle.std.specs.Ordering.{eq_by_cmp}
use Rattle.dns_name.specs.Names.{Labels, IsName, name_size, max_size, uncompressed, framed}
use Rattle.dns_name.proofs.theory.UncompressedNames.{name_tail}
use Rattle.dns_wire.specs.Encoders.{TableEntry, CompressionTable, add_suffixes, Extends, IsGrowing, Rule, Plain, Static, Tree}
use Rattle.dns_wire.specs.Encoders.{Hash, Encoder, encode_octets, both, with_length, Suffix, CompressedName, compress_label}
use Rattle.dns_wire.specs.Encoders.{compress, entering_suffixes, pointer as encode_pointer, encode_name, IsWithin, suffix_cmp}
use Rattle.dns_wire.specs.Encoders.{suffix_total, may_enter}
use Rattle.dns_wire.specs.Parts.{Part, Octets, CompressibleName, UncompressedName, encode_part, encode_parts}
use Rattle.dns_wire.specs.Targets.{At, Compressed, Labelled, IsTableEntry, IsTableOf}
use Rattle.dns_wire.specs.Targets.Compressed.{root, label, pointer}
use Rattle.dns_wire.proofs.theory.CompressionTables.{extends_refl, extends_wider, extends_join, inserted, gets, tied}
use Rattle.dns_wire.proofs.theory.CompressedNames.{at_end, label_part, after_label, moved, kept_moved, kept_more, kept_compressed, compressed_long}

-- The encodings of names, octets and parts add only suffixes of their own octets.

-- The suffixes aren't in the table, and are at or after offset w.
abbrev AreNew : CompressionTable → ℕ → List Suffix → Type 0
AreNew m w [] = Unit {0}
AreNew m w (s ∷ ss) = (get m s.labels ≡ None) × (w ≤ s.offset) × AreNew m w ss

newer : (m : CompressionTable) (w w' : ℕ) (ss : List Suffix) → w' ≤ w → AreNew m w ss → AreNew m w' ss
newer m w w' [] l h = tt
newer m w w' (s ∷ ss) l h = (h.0, omega (arith, h.1), newer m w w' ss l h.2)

-- How a name is encoded: its octets, and the suffixes that are written out.
pub data CompressesAs (rule : Rule) (m : CompressionTable) : ℕ → ℕ → Labels → List ℕ → List Suffix → Type 0 where
  at_root : {p entry_count : ℕ} → CompressesAs rule m p entry_count [] (0 ∷ []) []
  at_entry : {p entry_count : ℕ} {first : List ℕ} {rest : Labels} {x : TableEntry} → get m (first ∷ rest) ≡ Some x → CompressesAs rule m p entry_count (first ∷ rest) (encode_pointer x.offset) []
  at_kept : {p entry_count : ℕ} {first : List ℕ} {rest : Labels} {encoding : List ℕ} {ss : List Suffix} → get m (first ∷ rest) ≡ None → may_enter rule p entry_count ≡ true
      → CompressesAs rule m (p + 1 + length first) (entry_count + 1) rest encoding ss
      → CompressesAs rule m p entry_count (first ∷ rest) (framed first ++ encoding) (record { labels = first ∷ rest; offset = p } ∷ ss)
  at_far : {p entry_count : ℕ} {first : List ℕ} {rest : Labels} → get m (first ∷ rest) ≡ None → may_enter rule p entry_count ≡ false
      → CompressesAs rule m p entry_count (first ∷ rest) (uncompressed (first ∷ rest)) []

label_as : (rule : Rule) (m : CompressionTable) (p entry_count : ℕ) (o : Option TableEntry) (keep : Bool) (first : List ℕ) (rest : Labels)
    (after : CompressedName) → get m (first ∷ rest) ≡ o → may_enter rule p entry_count ≡ keep
    → CompressesAs rule m (p + 1 + length first) (entry_count + 1) rest after.octets after.suffixes
    → let compressed = compress_label o keep first (record { labels = first ∷ rest; offset = p }) after in
    CompressesAs rule m p entry_count (first ∷ rest) compressed.octets compressed.suffixes
label_as rule m p entry_count (Some x) keep first rest after e k s = at_entry e
label_as rule m p entry_count None true first rest after e k s = at_kept e k s
label_as rule m p entry_count None false first rest after e k s = at_far e k

-- A compressed name is the labels before its pointer, and the pointer, and adds their entries to the table.
pub compresses_as : (rule : Rule) (m : CompressionTable) (p entry_count : ℕ) (name : Labels)
    → let compressed = compress rule m p entry_count name in CompressesAs rule m p entry_count name compressed.octets compressed.suffixes
compresses_as rule m p entry_count [] = at_root
compresses_as rule m p entry_count (first ∷ rest) = label_as rule m p entry_count _ _ first rest _ refl refl (compresses_as rule m (p + 1 + length first) (entry_count + 1) rest)

-- The suffixes that are written out are new.
compress_new : {rule : Rule} {m : CompressionTable} {p entry_count : ℕ} {name : Labels} {encoding : List ℕ} {ss : List Suffix} → CompressesAs rule m p entry_count name encoding ss → AreNew m p ss
compress_new at_root = tt
compress_new (at_entry e) = tt
compress_new {m = m} (at_kept {p = p} {first = first} {ss = ss} e k s) = (e, omega arith, newer m (p + 1 + length first) p ss (omega arith) (compress_new s))
compress_new (at_far e k) = tt

chosen_new : (m : CompressionTable) (w : ℕ) (b : Bool) (ss : List Suffix) → AreNew m w ss → AreNew m w (cond b ss [])
chosen_new m w true ss h = h
chosen_new m w false ss h = tt

-- Those of them that enter the table are new.
kept_new : (rule : Rule) (m : CompressionTable) (w : ℕ) (ss : List Suffix) → AreNew m w ss → AreNew m w (entering_suffixes rule ss)
kept_new Plain m w ss h = tt
kept_new Static m w ss h = h
kept_new Tree m w ss h = h
kept_new Hash m w ss h = chosen_new m w _ ss h

-- Adding new suffixes extends the table.
extends-add_suffixes : (m : CompressionTable) (ss : List Suffix) (w end : ℕ) → w < end → AreNew m w ss → Extends m (add_suffixes m ss end) w end
extends-add_suffixes m [] w end l h = extends_refl m w end
extends-add_suffixes m (s ∷ ss) w end l h =
    inserted m (add_suffixes m ss end) s.labels (record { offset = s.offset; end = end }) w end (extends-add_suffixes m ss w end l h.2) h.0 h.1 l (omega arith)

-- A written name takes at least one octet.
compress_long : {rule : Rule} {m : CompressionTable} {p entry_count : ℕ} {name : Labels} {encoding : List ℕ} {ss : List Suffix}
    → CompressesAs rule m p entry_count name encoding ss → 0 < length encoding
compress_long at_root = omega arith
compress_long (at_entry e) = omega arith
compress_long (at_kept e k s) = omega arith
compress_long (at_far e k) = omega arith

-- Adding the suffixes of a name extends the table.
named : (rule : Rule) (name : Labels) (m : CompressionTable) (w entry_count : ℕ)
    → let compressed = compress rule m w entry_count name in Extends m (add_suffixes m (entering_suffixes rule compressed.suffixes) (w + length compressed.octets)) w (w + length compressed.octets)
named rule name m w entry_count = let long = compress_long (compresses_as rule m w entry_count name) in
    extends-add_suffixes m _ w _ (omega arith) (kept_new rule m w _ (compress_new (compresses_as rule m w entry_count name)))

-- The encoding of a name is growing.
pub encode_name_grows : (rule : Rule) (name : Labels) → IsGrowing (encode_name rule name)
unfolding encode_name
encode_name_grows Plain name = record { grows = λ m w. extends_refl m w _ }
encode_name_grows Static name = record { grows = λ m w. named Static name m w _ }
encode_name_grows Tree name = record { grows = λ m w. named Tree name m w _ }
encode_name_grows Hash name = record { grows = λ m w. named Hash name m w _ }

-- The encoding of octets is growing.
pub encode_octets_grows : (octets : List ℕ) → IsGrowing (encode_octets octets)
encode_octets_grows octets = record { grows = λ m w. extends_refl m w _ }

-- Two growing encodings in order are growing.
pub both_grows : (a b : Encoder) → IsGrowing a → IsGrowing b → IsGrowing (both a b)
both_grows a b g h = record {
  grows = λ m w.
      let first = a m w in
      let v = w + length first.octets in
      let second = b first.table v in
      let size : length (first.octets ++ second.octets) ≡ length first.octets + length second.octets = length-append _ _ in
      let end = w + length (first.octets ++ second.octets) in
      extends_join m first.table second.table w end
      (extends_wider m first.table w v w end (omega arith) (omega arith) (g.grows m w))
      (extends_wider first.table second.table v (v + length second.octets) w end (omega arith) (omega arith) (h.grows first.table v));
}

-- A growing encoding preceded by its length is growing.
pub with_length_grows : (a : Encoder) → IsGrowing a → IsGrowing (with_length a)
with_length_grows a g = record {
  grows = λ m w.
      let encoded = a m (w + 2) in
      extends_wider m encoded.table (w + 2) (w + 2 + length encoded.octets) w _ (omega arith) (omega arith) (g.grows m (w + 2));
}

-- The encoding of a part is growing.
pub encode_part_grows : (rule : Rule) (part : Part) → IsGrowing (encode_part rule part)
encode_part_grows rule (Octets octets) = encode_octets_grows octets
encode_part_grows rule (CompressibleName name) = encode_name_grows rule name
encode_part_grows rule (UncompressedName lowercased name) = encode_octets_grows (uncompressed name)

-- The encoding of parts is growing.
pub encode_parts_grows : (rule : Rule) (parts : List Part) → IsGrowing (encode_parts rule parts)
unfolding encode_parts
encode_parts_grows rule [] = encode_octets_grows []
encode_parts_grows rule (part ∷ parts) = both_grows _ _ (encode_part_grows rule part) (encode_parts_grows rule parts)

-- P holds of each suffix.
abbrev pub Each : (Suffix → Type 0) → List Suffix → Type 0
Each P [] = Unit {0}
Each P (s ∷ ss) = P s × Each P ss

-- The uncompressed octets of a name encode it.
pub compressed_full : (m : CompressionTable) (b : List ℕ) (q p : ℕ) (name : Labels) → IsName name → At b p (uncompressed name) → q ≡ p + length (uncompressed name) → Compressed m b q p name
compressed_full m b q p [] is h e = root h e
compressed_full m b q p (first ∷ rest) is h e =
    let t = name_tail first rest is in
    let n = length-append first (uncompressed rest) in
    label t.0 (label_part first (uncompressed rest) h)
    (compressed_full m b q (p + 1 + length first) rest t.1 (after_label first (uncompressed rest) h) (omega arith))

-- Names that end within p octets end within q ≥ p octets.
later : (m : CompressionTable) (p q : ℕ) → p ≤ q → IsWithin m p → IsWithin m q
later m p q l ends s x e = omega (arith, ends s x e)

-- The written octets of a name encode it.
compressed_by : {rule : Rule} {m : CompressionTable} {p entry_count : ℕ} {name : Labels} {encoding : List ℕ} {ss : List Suffix} (b : List ℕ)
    (q : ℕ) → CompressesAs rule m p entry_count name encoding ss → IsName name → IsWithin m p
    → At b p encoding → q ≡ p + length encoding → Compressed m b q p name
compressed_by b q at_root is ends h e = root h e
compressed_by b q (at_entry {first = first} {rest = rest} {x = x} g) is ends h e = pointer g (ends (first ∷ rest) x g) h (omega arith)
compressed_by {m = m} b q (at_kept {p = p} {first = first} {rest = rest} {encoding = encoding} g k s) is ends h e =
    let n = length-append first encoding in
    let tail = name_tail first rest is in
    label tail.0 (label_part first encoding h) (compressed_by b q s tail.1 (later m p (p + 1 + length first) (omega arith) ends) (after_label first encoding h) (omega arith))
compressed_by {m = m} b q (at_far {p = p} {first = first} {rest = rest} g k) is ends h e = compressed_full m b q p (first ∷ rest) is h e

-- An offset is within pointer range.
abbrev IsInPointerRange : ℕ → Type 0
IsInPointerRange p = p < 16384

-- What a rule says of the offset of a suffix that is written out.
abbrev InRangeFor : Rule → ℕ → Type 0
InRangeFor Plain p = Unit {0}
InRangeFor Static p = IsInPointerRange p
InRangeFor Tree p = IsInPointerRange p
InRangeFor Hash p = Unit {0}

-- This holds of a suffix that may enter the table.
in_range_for : (rule : Rule) (p entry_count : ℕ) → may_enter rule p entry_count ≡ true → InRangeFor rule p
in_range_for Plain p entry_count e = tt
in_range_for Static p entry_count e = grind (arith, common_steps)
in_range_for Tree p entry_count e = grind (arith, common_steps)
in_range_for Hash p entry_count e = tt

-- A suffix that is written out is encoded at its offset, of which `InRange` holds.
record Out (InRange : ℕ → Type 0) (m : CompressionTable) (b : List ℕ) (q : ℕ) (s : Suffix) : Type 0 where
  compressed : Labelled m b q s.offset s.labels
  short : name_size s.labels ≤ max_size
  in_range : InRange s.offset

-- Each suffix that is written out is encoded at its offset.
all_out : {rule : Rule} {m : CompressionTable} {p entry_count : ℕ} {name : Labels} {encoding : List ℕ} {ss : List Suffix} (b : List ℕ) (q : ℕ)
    → CompressesAs rule m p entry_count name encoding ss → IsName name → IsWithin m p
    → At b p encoding → q ≡ p + length encoding → Each (Out (InRangeFor rule) m b q) ss
all_out b q at_root is ends h e = tt
all_out b q (at_entry g) is ends h e = tt
all_out {rule = rule} {m = m} b q (at_kept {p = p} {entry_count = entry_count} {first = first} {rest = rest} {encoding = encoding} g k s) is ends h e =
    let n = length-append first encoding in
    let tail = name_tail first rest is in
    let ends' : IsWithin m (p + 1 + length first) = later m p (p + 1 + length first) (omega arith) ends in
    let after = after_label first encoding h in
    let end : q ≡ p + 1 + length first + length encoding = omega arith in (
      record {
        compressed = (tail.0, label_part first encoding h, compressed_by b q s tail.1 ends' after end);
        short = is.short;
        in_range = in_range_for rule p entry_count k;
      },
      all_out b q s tail.1 ends' after end,
    )
all_out b q (at_far g k) is ends h e = tt

in_range_tested : (m : CompressionTable) (b : List ℕ) (q : ℕ) (ss : List Suffix) → list_all (λ s. nat_lt s.offset 16384) ss ≡ true
    → Each (Out (InRangeFor Hash) m b q) ss → Each (Out IsInPointerRange m b q) ss
in_range_tested m b q [] t h = tt
in_range_tested m b q (s ∷ ss) t h =
    let both = and_parts (nat_lt s.offset 16384) (list_all (λ (s : Suffix). nat_lt s.offset 16384) ss) t in
    (record { compressed = h.0.compressed; short = h.0.short; in_range = let small = both.0 in grind (arith, common_steps) }, in_range_tested m b q ss both.1 h.1)

in_range_chosen : (m : CompressionTable) (b : List ℕ) (q : ℕ) (ss : List Suffix) (test : Bool) → list_all (λ s. nat_lt s.offset 16384) ss ≡ test
    → Each (Out (InRangeFor Hash) m b q) ss → Each (Out IsInPointerRange m b q) (cond test ss [])
in_range_chosen m b q ss true t h = in_range_tested m b q ss t h
in_range_chosen m b q ss false t h = tt

-- Each suffix that enters the table is within pointer range.
in_range_kept : (rule : Rule) (m : CompressionTable) (b : List ℕ) (q : ℕ) (ss : List Suffix) → Each (Out (InRangeFor rule) m b q) ss → Each (Out IsInPointerRange m b q) (entering_suffixes rule ss)
in_range_kept Plain m b q ss h = tt
in_range_kept Static m b q ss h = h
in_range_kept Tree m b q ss h = h
in_range_kept Hash m b q ss h = in_range_chosen m b q ss (list_all (λ s. nat_lt s.offset 16384) ss) refl h

found_one : (m r : CompressionTable) (s : Suffix) (q : ℕ) (P : Suffix → Type 0) (k : Labels) (x : TableEntry) (same : Bool)
    → (same ≡ true → k ≡ s.labels) → P s
    → (get r k ≡ Some x → (get m k ≡ Some x) ⊎ (P (record { labels = k; offset = x.offset }) × (x.end ≡ q)))
    → cond same (Some (let y : TableEntry = record { offset = s.offset; end = q } in y)) (get r k) ≡ Some x → (get m k ≡ Some x) ⊎ (P (record { labels = k; offset = x.offset }) × (x.end ≡ q))
found_one m r s q P k x true is p rec e =
    let y : TableEntry = record { offset = s.offset; end = q } in
    let same : y ≡ x = cc in
    inr (subst (λ (z : TableEntry). P (record { labels = k; offset = z.offset }) × (z.end ≡ q)) same (subst (λ (n : Labels). P (record { labels = n; offset = s.offset })) (sym (is refl)) p, refl))
found_one m r s q P k x false is p rec e = rec e

-- A suffix in the table was there before, or is one of the added ones.
pub found : (m : CompressionTable) (ss : List Suffix) (q : ℕ) (P : Suffix → Type 0) (k : Labels) (x : TableEntry) → Each P ss
    → get (add_suffixes m ss q) k ≡ Some x → (get m k ≡ Some x) ⊎ (P (record { labels = k; offset = x.offset }) × (x.end ≡ q))
found m [] q P k x all e = inl e
found m (s ∷ ss) q P k x all e =
    found_one m (add_suffixes m ss q) s q P k x (eq_by_cmp suffix_cmp k s.labels) (tied k s.labels) all.0 (found m ss q P k x all.1)
    (sym (get-insert suffix_total (add_suffixes m ss q) s.labels (record { offset = s.offset; end = q }) k) ∙ e)

-- Each name in a sound table ends within the content.
pub ends_within_content : {m : CompressionTable} {b : List ℕ} → IsTableOf b m → IsWithin m (length b)
ends_within_content r s x e = (compressed_long (kept_compressed s x (r.each s x e))).1

-- The entry of a suffix that was written out within pointer range is sound.
new_kept : (m n : CompressionTable) (b : List ℕ) (s : Labels) (x : TableEntry) → ((s : Labels) (x : TableEntry) → get m s ≡ Some x → get n s ≡ Some x)
    → Out IsInPointerRange m b x.end (record { labels = s; offset = x.offset }) → IsTableEntry b n s x
new_kept m n b s x g h =
    kept_moved m n b b s x (λ p xs l fits h. h) (λ t y e less. g t y e) (record { in_range = h.in_range; short = h.short; compressed = h.compressed })

-- Octets after a content encode a name, and the table after them is sound.
pub record EncodesName (b : List ℕ) (name : Labels) (encoding : List ℕ) (n : CompressionTable) : Type 0 where
  pub compressed : Compressed n (b ++ encoding) (length b + length encoding) (length b) name
  pub is_table : IsTableOf (b ++ encoding) n

by_rule : (rule : Rule) (m n : CompressionTable) (b : List ℕ) (name : Labels) (entry_count : ℕ) → IsName name → IsTableOf b m
    → n ≡ add_suffixes m (entering_suffixes rule (compress rule m (length b) entry_count name).suffixes) (length b + length (compress rule m (length b) entry_count name).octets)
    → ((s : Labels) (x : TableEntry) → get m s ≡ Some x → get n s ≡ Some x)
    → EncodesName b name (compress rule m (length b) entry_count name).octets n
by_rule rule m n b name entry_count l r is g =
    let w = length b in
    let written = compress rule m w entry_count name in
    let encoding = written.octets in
    let q = w + length encoding in
    let h = at_end b encoding in
    let within = ends_within_content r in
    let all = in_range_kept rule m (b ++ encoding) q written.suffixes (all_out (b ++ encoding) q (compresses_as rule m w entry_count name) l within h refl) in
    record {
      compressed = moved m n (b ++ encoding) (b ++ encoding) 0 q (λ p xs low fits h. h) (λ t x e less. g t x e) (omega arith)
          (compressed_by (b ++ encoding) q (compresses_as rule m w entry_count name) l within h refl);
      is_table = record {
        each = λ s x e.
            elim (found m (entering_suffixes rule written.suffixes) q (Out IsInPointerRange m (b ++ encoding) q) s x all (ap (λ (n : CompressionTable). get n s) (sym is) ∙ e)) [
              | inl old ↦ kept_more n encoding s x g (r.each s x old)
              | inr new ↦ new_kept m n (b ++ encoding) s x g (subst (λ q. Out IsInPointerRange m (b ++ encoding) q (record { labels = s; offset = x.offset })) (sym new.1) new.0)
            ];
      };
    }

-- This holds of the encoding of a name under each rule.
pub encodes_compressed_name : (rule : Rule) (m : CompressionTable) (b : List ℕ) (name : Labels) → IsName name → IsTableOf b m
    → EncodesName b name (encode_name rule name m (length b)).octets (encode_name rule name m (length b)).table
unfolding encode_name
encodes_compressed_name Plain m b name is r = record {
  compressed = compressed_full m (b ++ uncompressed name) (length b + length (uncompressed name)) (length b) name is (at_end b (uncompressed name)) refl;
  is_table = record { each = λ s x e. kept_more m (uncompressed name) s x (λ s x e. e) (r.each s x e) };
}
encodes_compressed_name Static m b name is r = by_rule Static m _ b name (len m) is r refl (gets ((encode_name_grows Static name).grows m (length b)))
encodes_compressed_name Tree m b name is r = by_rule Tree m _ b name (len m) is r refl (gets ((encode_name_grows Tree name).grows m (length b)))
encodes_compressed_name Hash m b name is r = by_rule Hash m _ b name (len m) is r refl (gets ((encode_name_grows Hash name).grows m (length b)))
