-- Where the entries of a compression table come from: each is of a label of a name that was written.
use Rattle.std.proofs.Common.{◌≡◌, ◌∙◌, ◌⊎◌, inl, inr, ℕ, ◌+◌, ◌≤◌, Bool, true, false, cond, Some, Ok, List, [], ◌∷◌, ◌++◌, length, length-append, refl, sym, ap, subst, arith}
use Rattle.std.specs.Int.{to_be_bytes, w16}
use Rattle.std.specs.FinMap.{get, len}
use Rattle.std.proofs.lemmas.Option.{slice_get_within}
use Rattle.dns_name.specs.Names.{Labels, IsName, head_at, uncompressed}
use Rattle.dns_name.specs.declared.head.Head.TheVariants.{Label}
use Rattle.dns_name.proofs.theory.ExtentLaws.{one_end}
use Rattle.dns_name.proofs.theory.HeadLemmas.{label_there}
use Rattle.dns_name.proofs.theory.UncompressedNames.{name_tail}
use Rattle.dns_wire.specs.Encoders.{CompressionTable, TableEntry, Suffix, Rule, Plain, Static, Tree, Hash, Encoder, IsGrowing}
use Rattle.dns_wire.specs.Encoders.{encode_octets, encode_name, both, with_length, compress, add_suffixes, entering_suffixes}
use Rattle.dns_wire.specs.Parts.{Part, Octets, CompressibleName, UncompressedName, encode_parts, AreParts}
use Rattle.dns_wire.specs.Targets.{At, Written, IsTarget, append}
use Rattle.dns_wire.proofs.theory.CompressedNames.{at_end, label_part, after_label, label_begins, compressed_ends}
use Rattle.dns_wire.proofs.theory.EncodedNames.{CompressesAs, compresses_as, Each, found, both_grows}
use Rattle.dns_wire.proofs.theory.EncodedNames.CompressesAs.{at_root, at_entry, at_kept, at_far}
use Rattle.dns_wire.proofs.theory.EncoderLaws.{Encodes, Consecutive, HasOctets, HasName, HasParts, HasLength, append-both, append-with_length, length_of, encodes_octets, encodes_name, encodes_parts, stable_name}
use Rattle.dns_wire.proofs.theory.Stability.{agree_append, agree_label}
use Rattle.dns_edit.specs.Pointers.{LabelOf}
use Rattle.dns_edit.specs.Pointers.LabelOf.{first as here, later}

-- A label begins within the octets.
label_within : (b : List ℕ) (p n : ℕ) → head_at b p ≡ Ok (Label n) → p + 1 ≤ length b
label_within b p n h = let w = slice_get_within b p n (label_there b p n h) in omega arith

-- The labels of a name are labels of it in longer octets.
pub label_of_append : {b : List ℕ} {p t : ℕ} (c : List ℕ) → LabelOf b p t → LabelOf (b ++ c) p t
label_of_append {b = b} c (here {p = p} {n = n} h) = here (agree_label (agree_append b c) (omega arith) (label_within b p n h) h)
label_of_append {b = b} c (later {p = p} {n = n} h x) = later (agree_label (agree_append b c) (omega arith) (label_within b p n h) h) (label_of_append c x)

-- What is a label of the rest of a name is one of the name.
each_later : (b : List ℕ) (p n : ℕ) → head_at b p ≡ Ok (Label n) → (ss : List Suffix) → Each (λ s. LabelOf b (p + 1 + n) s.offset) ss → Each (λ s. LabelOf b p s.offset) ss
each_later b p n h [] all = tt
each_later b p n h (s ∷ ss) all = (later h all.0, each_later b p n h ss all.1)

-- Each suffix that is written out begins at a label of the name.
suffix_labels : {rule : Rule} {m : CompressionTable} {p entry_count : ℕ} {name : Labels} {encoding : List ℕ} {ss : List Suffix} (b : List ℕ)
    → CompressesAs rule m p entry_count name encoding ss → IsName name → At b p encoding → Each (λ s. LabelOf b p s.offset) ss
suffix_labels b at_root is h = tt
suffix_labels b (at_entry g) is h = tt
suffix_labels b (at_kept {p = p} {first = first} {rest = rest} {encoding = encoding} {ss = ss} g k s) is h =
    let tail = name_tail first rest is in
    let begins = label_begins tail.0 (label_part first encoding h) in
    (here begins, each_later b p (length first) begins ss (suffix_labels b s tail.1 (after_label first encoding h)))
suffix_labels b (at_far g k) is h = tt

entering_if : (P : Suffix → Type 0) (b : Bool) (ss : List Suffix) → Each P ss → Each P (cond b ss [])
entering_if P true ss h = h
entering_if P false ss h = tt

-- What holds of each suffix holds of those that enter the table.
each_entering : (rule : Rule) (P : Suffix → Type 0) (ss : List Suffix) → Each P ss → Each P (entering_suffixes rule ss)
each_entering Plain P ss h = tt
each_entering Static P ss h = h
each_entering Tree P ss h = h
each_entering Hash P ss h = entering_if P _ ss h

-- Names that were written: where each begins and ends.
abbrev pub Spans : Type 0
Spans = List (ℕ × ℕ)

-- A name was written from p to q.
abbrev pub IsAmong : ℕ → ℕ → Spans → Type 0
IsAmong p q [] = ⊥
IsAmong p q (s ∷ ss) = ((p ≡ s.0) × (q ≡ s.1)) ⊎ IsAmong p q ss

-- A name among the first is among all.
pub among_first : (p q : ℕ) (ss others : Spans) → IsAmong p q ss → IsAmong p q (ss ++ others)
among_first p q [] others h = absurd h
among_first p q (s ∷ ss) others (inl h) = inl h
among_first p q (s ∷ ss) others (inr h) = inr (among_first p q ss others h)

-- A name among the others is among all.
pub among_others : (p q : ℕ) (ss others : Spans) → IsAmong p q others → IsAmong p q (ss ++ others)
among_others p q [] others h = h
among_others p q (s ∷ ss) others h = inr (among_others p q ss others h)

-- A name among all is among the first, or the others.
pub among_either : (p q : ℕ) (ss others : Spans) → IsAmong p q (ss ++ others) → IsAmong p q ss ⊎ IsAmong p q others
among_either p q [] others h = inr h
among_either p q (s ∷ ss) others (inl h) = inl (inl h)
among_either p q (s ∷ ss) others (inr h) = elim (among_either p q ss others h) [ inl front ↦ inl (inr front) | inr back ↦ inr back ]

-- `IsBefore`, or one of these.
abbrev pub Also : (ℕ → ℕ → Type 0) → Spans → ℕ → ℕ → Type 0
Also IsBefore ss p q = IsBefore p q ⊎ IsAmong p q ss

-- An entry of the table is of a label of a name that was written.
pub record Origin (IsSpan : ℕ → ℕ → Type 0) (b : List ℕ) (x : TableEntry) : Type 0 where
  pub start : ℕ
  pub span : IsSpan start x.end
  pub label : LabelOf b start x.offset

-- Each entry is.
pub record Traced (IsSpan : ℕ → ℕ → Type 0) (t : Written) : Type 0 where
  pub each : (s : Labels) (x : TableEntry) → get t.table s ≡ Some x → Origin IsSpan t.octets x

-- It is of one of more names.
pub traced_more : (One Two : ℕ → ℕ → Type 0) (t : Written) → ((p q : ℕ) → One p q → Two p q) → Traced One t → Traced Two t
traced_more One Two t more h = record { each = λ s x e. let o = h.each s x e in record { start = o.start; span = more o.start x.end o.span; label = o.label } }

origin_append : {IsSpan : ℕ → ℕ → Type 0} {b : List ℕ} {x : TableEntry} (c : List ℕ) → Origin IsSpan b x → Origin IsSpan (b ++ c) x
origin_append c o = record { start = o.start; span = o.span; label = label_of_append c o.label }

-- Octets add no entry.
traced_octets : (IsSpan : ℕ → ℕ → Type 0) (xs : List ℕ) (t : Written) → Traced IsSpan t → Traced IsSpan (append (encode_octets xs) t)
traced_octets IsSpan xs t h = record { each = λ s x e. origin_append xs (h.each s x e) }

-- A name adds entries of its own labels.
by_rule : (IsSpan : ℕ → ℕ → Type 0) (rule : Rule) (m : CompressionTable) (b : List ℕ) (name : Labels) (entry_count : ℕ) → IsName name
    → ((s : Labels) (x : TableEntry) → get m s ≡ Some x → Origin IsSpan b x)
    → let compressed = compress rule m (length b) entry_count name in
    let q = length b + length compressed.octets in
    (s : Labels) (x : TableEntry) → get (add_suffixes m (entering_suffixes rule compressed.suffixes) q) s ≡ Some x
    → Origin (Also IsSpan ((length b, q) ∷ [])) (b ++ compressed.octets) x
by_rule IsSpan rule m b name entry_count is old s x e =
    let w = length b in
    let compressed = compress rule m w entry_count name in
    let q = w + length compressed.octets in
    let c = b ++ compressed.octets in
    let P : Suffix → Type 0 = λ suffix. LabelOf c w suffix.offset in
    let all = each_entering rule P compressed.suffixes (suffix_labels c (compresses_as rule m w entry_count name) is (at_end b compressed.octets)) in
    elim (found m (entering_suffixes rule compressed.suffixes) q P s x all e) [
      | inl there ↦ (let o = old s x there in record { start = o.start; span = inl o.span; label = label_of_append compressed.octets o.label })
      | inr new ↦ record { start = w; span = inr (inl (refl, new.1)); label = new.0 }
    ]

traced_name_as : (IsSpan : ℕ → ℕ → Type 0) (rule : Rule) (name : Labels) (t : Written) → IsName name → Traced IsSpan t
    → Traced (Also IsSpan ((length t.octets, length t.octets + length (encode_name rule name t.table (length t.octets)).octets) ∷ [])) (append (encode_name rule name) t)
unfolding encode_name
traced_name_as IsSpan Plain name t is h = record {
  each = λ s x e. let o = h.each s x e in record { start = o.start; span = inl o.span; label = label_of_append (uncompressed name) o.label };
}
traced_name_as IsSpan Static name t is h = record { each = by_rule IsSpan Static t.table t.octets name (len t.table) is h.each }
traced_name_as IsSpan Tree name t is h = record { each = by_rule IsSpan Tree t.table t.octets name (len t.table) is h.each }
traced_name_as IsSpan Hash name t is h = record { each = by_rule IsSpan Hash t.table t.octets name (len t.table) is h.each }

-- What is written is at P, whose names are `spans`. After it is appended, each entry of the table is of one of these names, or of one before. `u` is what is written at last.
pub record Traces (encoder : Encoder) (P : Written → ℕ → ℕ → Type 0) (spans : (t : Written) (p q : ℕ) → P t p q → Spans) : Type 1 where
  pub traces : (IsSpan : ℕ → ℕ → Type 0) (t u : Written) (rest : Encoder) → IsTarget t → IsTarget u → Traced IsSpan t → IsGrowing rest → u ≡ append rest (append encoder t)
      → (p q : ℕ) → p ≡ length t.octets → (h : P u p q) → (q ≡ length (append encoder t).octets) × Traced (Also IsSpan (spans u p q h)) (append encoder t)

-- no names
abbrev pub no_spans : (P : Written → ℕ → ℕ → Type 0) (t : Written) (p q : ℕ) → P t p q → Spans
no_spans P t p q h = []

-- one name, from p to q
abbrev pub one_span : (P : Written → ℕ → ℕ → Type 0) (t : Written) (p q : ℕ) → P t p q → Spans
one_span P t p q h = (p, q) ∷ []

-- the names of one and of the other
abbrev pub both_spans : (P Q : Written → ℕ → ℕ → Type 0) → ((t : Written) (p q : ℕ) → P t p q → Spans) → ((t : Written) (p q : ℕ) → Q t p q → Spans)
    → (t : Written) (p q : ℕ) → Consecutive P Q t p q → Spans
both_spans P Q first second t p q h = first t p h.0 h.1 ++ second t h.0 q h.2

-- Octets have no names.
pub traces_octets : (xs : List ℕ) → Traces (encode_octets xs) (HasOctets xs) (no_spans (HasOctets xs))
traces_octets xs = record {
  traces = λ IsSpan t u rest good whole old grows is p q start h.
      let n = length-append t.octets xs in
      let e = h.1 in
      (omega arith, traced_more IsSpan (Also IsSpan []) _ (λ p q one. inl one) (traced_octets IsSpan xs t old));
}

-- A name is one.
pub traces_name : (rule : Rule) (name : Labels) → IsName name → Traces (encode_name rule name) (HasName name) (one_span (HasName name))
traces_name rule name is = record {
  traces = λ IsSpan t u rest good whole old grows same p q start h.
      let written = encodes_name rule name is in
      let v = append (encode_name rule name) t in
      let there : HasName name u (length t.octets) (length v.octets) =
      subst (λ (w : Written). HasName name w (length t.octets) (length v.octets)) (sym same)
      ((stable_name name).stays rest v (length t.octets) (length v.octets) grows (written.encodes t good)) in
      let short = is.short in
      let one = compressed_ends 0 whole (omega (arith, short)) h in
      let two = compressed_ends 0 whole (omega (arith, short)) (subst (λ k. HasName name u k (length v.octets)) (sym start) there) in
      let ends : q ≡ length v.octets = one_end u.octets one two in
      let n = length-append t.octets (encode_name rule name t.table (length t.octets)).octets in (
        ends,
        traced_more _ (Also IsSpan ((p, q) ∷ [])) v
            (λ a e one. elim one [ inl before ↦ inl before | inr (inl at) ↦ inr (inl (at.0 ∙ sym start, at.1 ∙ (sym n ∙ sym ends))) | inr (inr none) ↦ absurd none ])
            (traced_name_as IsSpan rule name t is old),
      );
}

-- Two encodings in order have the names of both.
pub traces_both : (a b : Encoder) (P Q : Written → ℕ → ℕ → Type 0) (first : (t : Written) (p q : ℕ) → P t p q → Spans) (second : (t : Written) (p q : ℕ) → Q t p q → Spans)
    → Encodes a P → Encodes b Q → Traces a P first → Traces b Q second → Traces (both a b) (Consecutive P Q) (both_spans P Q first second)
traces_both a b P Q first second one two x y = record {
  traces = λ IsSpan t u rest good whole old grows same p q start h.
      let v = append a t in
      let w = append b v in
      let e : append b (append a t) ≡ append (both a b) t = append-both a b t in
      let to_w : u ≡ append rest w = same ∙ ap (append rest) (sym e) in
      let to_v : u ≡ append (both b rest) v = to_w ∙ append-both b rest v in
      let left = x.traces IsSpan t u (both b rest) good whole old (both_grows b rest two.grows grows) to_v p h.0 start h.1 in
      let right = y.traces (Also IsSpan (first u p h.0 h.1)) v u rest (one.keeps t good) whole left.1 grows to_w h.0 q left.0 h.2 in
      let joined : Traced (Also IsSpan (first u p h.0 h.1 ++ second u h.0 q h.2)) w =
      traced_more _ _ w
      (λ k l at. elim at [
        | inl (inl before) ↦ inl before
        | inl (inr front) ↦ inr (among_first k l (first u p h.0 h.1) (second u h.0 q h.2) front)
        | inr back ↦ inr (among_others k l (first u p h.0 h.1) (second u h.0 q h.2) back)
      ]) right.1 in
      (right.0 ∙ ap (λ (z : Written). length z.octets) e, subst (λ (z : Written). Traced (Also IsSpan (first u p h.0 h.1 ++ second u h.0 q h.2)) z) e joined);
}

-- the names of what follows its length
abbrev pub length_spans : (P : Written → ℕ → ℕ → Type 0) → ((t : Written) (p q : ℕ) → P t p q → Spans) → (t : Written) (p q : ℕ) → HasLength P t p q → Spans
length_spans P spans t p q h = spans t (p + 2) q h.1

-- A length has no names.
pub traces_with_length : (a : Encoder) (P : Written → ℕ → ℕ → Type 0) (spans : (t : Written) (p q : ℕ) → P t p q → Spans) → Traces a P spans
    → Traces (with_length a) (HasLength P) (length_spans P spans)
traces_with_length a P spans x = record {
  traces = λ IsSpan t u rest good whole old grows same p q start h.
      let size = to_be_bytes w16 (length_of a t) in
      let v = append (encode_octets size) t in
      let e : append a v ≡ append (with_length a) t = append-both (encode_octets size) a t ∙ append-with_length a t in
      let n = length-append t.octets size in
      let inner = x.traces IsSpan v u rest ((encodes_octets size).keeps t good) whole (traced_octets IsSpan size t old) grows (same ∙ ap (append rest) (sym e))
      (p + 2) q (omega arith) h.1 in
      (inner.0 ∙ ap (λ (z : Written). length z.octets) e, subst (λ (z : Written). Traced (Also IsSpan (spans u (p + 2) q h.1)) z) e inner.1);
}

-- the names that may be compressed, of parts
abbrev pub part_spans : (parts : List Part) (t : Written) (p q : ℕ) → HasParts parts t p q → Spans
part_spans [] = no_spans (HasParts [])
part_spans (Octets xs ∷ parts) = both_spans (HasOctets xs) (HasParts parts) (no_spans (HasOctets xs)) (part_spans parts)
part_spans (CompressibleName name ∷ parts) = both_spans (HasName name) (HasParts parts) (one_span (HasName name)) (part_spans parts)
part_spans (UncompressedName lowercased name ∷ parts) =
    both_spans (HasOctets (uncompressed name)) (HasParts parts) (no_spans (HasOctets (uncompressed name))) (part_spans parts)

-- Nothing has no names.
pub traces_none : (P : Written → ℕ → ℕ → Type 0) → ((t : Written) (p q : ℕ) → P t p q → p ≡ q) → Traces (encode_octets []) P (no_spans P)
traces_none P empty = record {
  traces = λ IsSpan t u rest good whole old grows same p q start h.
      let n = length-append t.octets [] in
      let e = empty u p q h in
      (omega arith, traced_more IsSpan (Also IsSpan []) _ (λ p q one. inl one) (traced_octets IsSpan [] t old));
}

-- Parts have these names.
pub traces_parts : (rule : Rule) (parts : List Part) → AreParts parts → Traces (encode_parts rule parts) (HasParts parts) (part_spans parts)
unfolding encode_parts
traces_parts rule [] is = traces_none (HasParts []) (λ t p q h. h)
traces_parts rule (Octets xs ∷ parts) is =
    traces_both (encode_octets xs) (encode_parts rule parts) (HasOctets xs) (HasParts parts) (no_spans (HasOctets xs)) (part_spans parts)
    (encodes_octets xs) (encodes_parts rule parts is) (traces_octets xs) (traces_parts rule parts is)
traces_parts rule (CompressibleName name ∷ parts) is =
    traces_both (encode_name rule name) (encode_parts rule parts) (HasName name) (HasParts parts) (one_span (HasName name)) (part_spans parts)
    (encodes_name rule name is.0) (encodes_parts rule parts is.1) (traces_name rule name is.0) (traces_parts rule parts is.1)
traces_parts rule (UncompressedName lowercased name ∷ parts) is =
    let xs = uncompressed name in
    traces_both (encode_octets xs) (encode_parts rule parts) (HasOctets xs) (HasParts parts) (no_spans (HasOctets xs)) (part_spans parts)
    (encodes_octets xs) (encodes_parts rule parts is.1) (traces_octets xs) (traces_parts rule parts is.1)
