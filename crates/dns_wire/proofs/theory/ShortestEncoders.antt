-- No compression of the names among parts is shorter than what is written.
use Rattle.std.proofs.Common.{◌≡◌, ℕ, ◌+◌, ◌-◌, ◌≤◌, ◌⊎◌, inl, inr, Bool, List, [], ◌∷◌, ◌++◌, length, length-append, append_assoc, append-nil, arith, ap, sym, ◌∙◌, refl, subst}
use Rattle.std.specs.Prelude.{Some, None}
use Rattle.std.specs.Int.{to_be_bytes, w16}
use Rattle.std.specs.FinMap.{get, len, get-empty}
use Rattle.dns_name.specs.Names.{Labels, IsName, name_size, max_size, uncompressed, NameEndsAt}
use Rattle.dns_wire.specs.Encoders.{CompressionTable, TableEntry, nothing, suffix_cmp, Suffix, add_suffixes, Rule, Plain, Static, Tree}
use Rattle.dns_wire.specs.Encoders.{Hash, Encoder, Encoded, encode_octets, both, with_length, compress, entering_suffixes, encode_name}
use Rattle.dns_wire.specs.Parts.{Part, Octets, CompressibleName, UncompressedName, AreParts, encode_parts, PartsInPointerRange}
use Rattle.dns_wire.specs.Targets.{At, IsTableOf, Written, IsTarget, append}
use Rattle.dns_wire.specs.Compression.{IsShared, Compression, SharesAll, AddsShortest, PartsAreShortest}
use Rattle.dns_wire.specs.Compression.Compression.{none, octets, uncompressed_name, whole, shared}
use Rattle.dns_wire.proofs.theory.TargetTheorems.{in_range_end}
use Rattle.dns_wire.proofs.theory.EncodedNames.{encode_name_grows, compresses_as}
use Rattle.dns_wire.proofs.theory.EncoderLaws.{length_of, append-with_length, append-both, encodes_name, encodes_octets}
use Rattle.dns_wire.proofs.theory.CompressionTables.{gets, nothing_is_kept}
use Rattle.dns_wire.proofs.theory.CompressedNames.{at_append, at_end, compressed_ends, compressed_more, kept_more}
use Rattle.dns_wire.proofs.SharedSuffixes.{Knows, Best, KeepsInPointerRange, tree_keeps_in_range, static_keeps_in_range, hash_keeps_in_range}
use Rattle.dns_wire.proofs.SharedSuffixes.{best, knows_more, in_range_kept, in_range_suffixes, few_less, shared_some, len_compress, len_add_suffixes}
use Rattle.dns_name.proofs.theory.Steps.{name_size-append}

-- The names that may be compressed among these parts, before other names.
abbrev pub added : List Part → List Labels → List Labels
added [] names = names
added (Octets xs ∷ parts) names = added parts names
added (CompressibleName name ∷ parts) names = added parts (name ∷ names)
added (UncompressedName lowercased name ∷ parts) names = added parts names

-- The names that may be compressed among two lists of parts.
added-append : (ps qs : List Part) (names : List Labels) → added qs (added ps names) ≡ added (ps ++ qs) names
added-append [] qs names = refl
added-append (Octets xs ∷ ps) qs names = added-append ps qs names
added-append (CompressibleName name ∷ ps) qs names = added-append ps qs (name ∷ names)
added-append (UncompressedName lowercased name ∷ ps) qs names = added-append ps qs names

-- After the earlier `names`, the parts are written from p to q as short as possible, whichever parts `rest` follow them up to `end`. The table has exactly the suffixes of all these names.
pub record Short (names : List Labels) (parts rest : List Part) (b : List ℕ) (p q end : ℕ) (m : CompressionTable) : Type 0 where
  pub knows : Knows m (added parts names)
  pub in_range : PartsInPointerRange b end q rest
  pub rises : p ≤ q
  pub attains : (n : ℕ) → Compression (added parts names) rest n → Compression names (parts ++ rest) (q - p + n)
  pub least : (n : ℕ) → Compression names (parts ++ rest) n → (k : ℕ) × Compression (added parts names) rest k × (q + k ≤ p + n)

-- Parts are added to a target. They are as short as possible if the table had exactly the suffixes of earlier names, and every label is within pointer range, those of the following parts included.
pub record AddsShort (rule : Rule) (parts : List Part) (t u : Written) : Type 0 where
  pub longer : len t.table ≤ len u.table
  pub keeps : IsTarget t → IsTarget u
  pub short : (c : List ℕ) (names : List Labels) (rest : List Part) (end : ℕ) → IsTarget t → Knows t.table names
      → PartsInPointerRange (u.octets ++ c) end (length t.octets) (parts ++ rest) → SharesAll rule (len u.table)
      → Short names parts rest (u.octets ++ c) (length t.octets) (length u.octets) end u.table

-- An encoding adds these parts so, to each target.
abbrev pub Shortens : Rule → Encoder → List Part → Type 0
Shortens rule encoder parts = (t : Written) → AddsShort rule parts t (append encoder t)

-- Octets are written in one way.
octets_parts : {names : List Labels} {xs : List ℕ} {parts : List Part} {n : ℕ} → Compression names (Octets xs ∷ parts) n → (k : ℕ) × Compression names parts k × (n ≡ length xs + k)
octets_parts (octets {n = k} s) = (k, s, refl)

-- An empty encoding adds no parts.
pub shortens_none : (rule : Rule) → Shortens rule (encode_octets []) []
shortens_none rule t = record {
  longer = omega arith;
  keeps = (encodes_octets []).keeps t;
  short = λ c names rest end h knows in_range few.
      let e : length (t.octets ++ []) ≡ length t.octets = ap length (append-nil t.octets) in
      record {
        knows = knows;
        in_range = subst (λ q. PartsInPointerRange ((t.octets ++ []) ++ c) end q rest) (sym e) in_range;
        rises = omega arith;
        attains = λ n s. subst (λ k. Compression names rest k) (omega arith) s;
        least = λ n s. (n, s, omega arith);
      };
}

-- The encoding of octets adds a part of equally many octets.
pub shortens_octets : (rule : Rule) (xs ys : List ℕ) → length ys ≡ length xs → Shortens rule (encode_octets xs) (Octets ys ∷ [])
shortens_octets rule xs ys same t = record {
  longer = omega arith;
  keeps = (encodes_octets xs).keeps t;
  short = λ c names rest end h knows in_range few.
      let e : length (t.octets ++ xs) ≡ length t.octets + length ys = length-append t.octets xs ∙ ap (λ n. length t.octets + n) (sym same) in
      record {
        knows = knows;
        in_range = subst (λ q. PartsInPointerRange ((t.octets ++ xs) ++ c) end q rest) (sym e) in_range;
        rises = omega arith;
        attains = λ n s. let o : Compression names (Octets ys ∷ rest) (length ys + n) = octets s in subst (λ k. Compression names (Octets ys ∷ rest) k) (omega arith) o;
        least = λ n s. let o = octets_parts s in (o.0, o.1, omega (arith, o.2));
      };
}

-- A compression of a name that is never compressed and parts is its octets and a compression of the parts.
uncompressed_parts : {names : List Labels} {lowercased : Bool} {name : Labels} {parts : List Part} {n : ℕ} → Compression names (UncompressedName lowercased name ∷ parts) n
    → (k : ℕ) × Compression names parts k × (n ≡ length (uncompressed name) + k)
uncompressed_parts (uncompressed_name {n = k} s) = (k, s, refl)

-- The encoding of a name that is never compressed is as short as possible.
pub shortens_uncompressed : (rule : Rule) (lowercased : Bool) (name : Labels) → Shortens rule (encode_octets (uncompressed name)) (UncompressedName lowercased name ∷ [])
shortens_uncompressed rule lowercased name t =
    let xs = uncompressed name in
    record {
      longer = omega arith;
      keeps = (encodes_octets xs).keeps t;
      short = λ c names rest end h knows in_range few.
          let e : length (t.octets ++ xs) ≡ length t.octets + length xs = length-append t.octets xs in
          record {
            knows = knows;
            in_range = subst (λ q. PartsInPointerRange ((t.octets ++ xs) ++ c) end q rest) (sym e) in_range;
            rises = omega arith;
            attains = λ n s. let o : Compression names (UncompressedName lowercased name ∷ rest) (length xs + n) = uncompressed_name s in
                subst (λ k. Compression names (UncompressedName lowercased name ∷ rest) k) (omega arith) o;
            least = λ n s. let o = uncompressed_parts s in (o.0, o.1, omega (arith, o.2));
          };
    }

-- Labels take at least one octet.
size_some : (a : Labels) → 1 ≤ length a → 1 ≤ name_size a
size_some [] h = absurd (omega arith)
size_some (l ∷ a) h = omega arith

-- The two ways to write a name before other parts, and the octets that each takes.
abbrev AtName : List Labels → Labels → List Part → ℕ → Type 0
AtName names name parts n =
    ((k : ℕ) × Compression (name ∷ names) parts k × (n ≡ name_size name + 1 + k))
    ⊎ ((first : Labels) × (rest : Labels) × (name ≡ first ++ rest) × IsShared names rest × ((k : ℕ) × Compression (name ∷ names) parts k × (n ≡ name_size first + 2 + k)))

-- A name before other parts is written in one of these ways.
name_parts : {names : List Labels} {name : Labels} {parts : List Part} {n : ℕ} → Compression names (CompressibleName name ∷ parts) n → AtName names name parts n
name_parts (whole {n = k} s) = inl (k, s, refl)
name_parts (shared {n = k} first rest e h s) = inr (first, rest, e, h, (k, s, refl))

-- A shortest name is written in one of these ways.
attains_name : (names : List Labels) (name : Labels) (rest : List Part) (l n : ℕ) → Best names name l → Compression (name ∷ names) rest n → Compression names (CompressibleName name ∷ rest) (l + n)
attains_name names name rest l n (inl a) s = subst (λ k. Compression names (CompressibleName name ∷ rest) (k + n)) (sym a.0) (whole s)
attains_name names name rest l n (inr a) s = subst (λ k. Compression names (CompressibleName name ∷ rest) (k + n)) (sym a.4) (shared a.0 a.1 a.2 a.3 s)

-- No way is shorter.
least_name : (names : List Labels) (name : Labels) (rest : List Part) (l n : ℕ) → Best names name l → AtName names name rest n → (k : ℕ) × Compression (name ∷ names) rest k × (l + k ≤ n)
least_name names name rest l n (inl a) (inl b) = (b.0, b.1, omega (arith, a.0, b.2))
least_name names name rest l n (inl a) (inr b) = absurd (a.1 b.0 b.1 b.2 b.3)
least_name names name rest l n (inr a) (inl b) =
    let e : name_size name ≡ name_size a.0 + name_size a.1 = ap name_size a.2 ∙ name_size-append a.0 a.1 in
    let some = size_some a.1 (shared_some names a.1 a.3) in
    (b.0, b.1, omega (arith, a.4, b.2))
least_name names name rest l n (inr a) (inr b) = let m = a.5 b.0 b.1 b.2 b.3 in (b.4.0, b.4.1, omega (arith, a.4, b.4.2))

-- A rule that writes names as `compress` does, and by which each suffix within pointer range enters the table while `SharesAll` holds.
pub record CompressesShortest (rule : Rule) : Type 0 where
  pub in_range : KeepsInPointerRange rule
  pub few : (name : Labels) (m : CompressionTable) (w : ℕ) → SharesAll rule (len (encode_name rule name m w).table) → SharesAll rule (len m + length (compress rule m w (len m) name).suffixes)
  pub writes : (name : Labels) (m : CompressionTable) (w : ℕ) → let compressed = compress rule m w (len m) name in
      encode_name rule name m w ≡ record {
        octets = compressed.octets;
        table = add_suffixes m (entering_suffixes rule compressed.suffixes) (w + length compressed.octets);
      }

-- The tree rule is one.
compresses_tree : CompressesShortest Tree
unfolding encode_name
compresses_tree = record { in_range = tree_keeps_in_range; few = λ name m w h. tt; writes = λ name m w. refl }

-- The static rule is one.
compresses_static : CompressesShortest Static
unfolding encode_name
compresses_static = record {
  in_range = static_keeps_in_range;
  few = λ name m w h. let compressed = compress Static m w (len m) name in let e = len_compress (w + length compressed.octets) (compresses_as Static m w (len m) name) in omega arith;
  writes = λ name m w. refl;
}

-- The hash rule is one.
compresses_hash : CompressesShortest Hash
unfolding encode_name
compresses_hash = record { in_range = hash_keeps_in_range; few = λ name m w h. tt; writes = λ name m w. refl }

-- Every rule with `SharesAll` is one.
pub compresses_shortest : (rule : Rule) (n : ℕ) → SharesAll rule n → CompressesShortest rule
compresses_shortest Plain n few = absurd few
compresses_shortest Static n few = compresses_static
compresses_shortest Tree n few = compresses_tree
compresses_shortest Hash n few = compresses_hash

-- A name written with the octets and the suffixes that `compress` gives is as short as possible.
name_short : (rule : Rule) (name : Labels) (t : Written) (encoded : Encoded) (c : List ℕ) (names : List Labels) (rest : List Part) (end : ℕ)
    → KeepsInPointerRange rule → IsName name → Knows t.table names
    → let compressed = compress rule t.table (length t.octets) (len t.table) name in
    encoded ≡ record {
      octets = compressed.octets;
      table = add_suffixes t.table (entering_suffixes rule compressed.suffixes)
          (length t.octets + length compressed.octets);
    }
    → ((s : Labels) (x : TableEntry) → get t.table s ≡ Some x → get encoded.table s ≡ Some x)
    → NameEndsAt ((t.octets ++ encoded.octets) ++ c) (length t.octets) (length (t.octets ++ encoded.octets))
    → PartsInPointerRange ((t.octets ++ encoded.octets) ++ c) end (length t.octets) (CompressibleName name ∷ rest)
    → SharesAll rule (len t.table + length (compress rule t.table (length t.octets) (len t.table) name).suffixes)
    → Short names (CompressibleName name ∷ []) rest ((t.octets ++ encoded.octets) ++ c) (length t.octets) (length (t.octets ++ encoded.octets)) end encoded.table
name_short rule name t encoded c names rest end r is knows e g name_ends in_range few =
    let m = t.table in
    let w = length t.octets in
    let compressed = compress rule m w (len m) name in
    let b = (t.octets ++ encoded.octets) ++ c in
    let same : encoded.octets ≡ compressed.octets = ap (λ (x : Encoded). x.octets) e in
    let at = subst (λ (xs : List ℕ). At b w xs) same (at_append c (at_end t.octets encoded.octets)) in
    let all = in_range_kept r b in_range.0 (compresses_as rule m w (len m) name) is in_range.1 at few in
    let chosen = in_range_suffixes b in_range.0 (compresses_as rule m w (len m) name) is in_range.1 at in
    let q = w + length compressed.octets in
    let table : encoded.table ≡ add_suffixes m compressed.suffixes q = ap (λ (x : Encoded). x.table) e ∙ ap (λ (ss : List Suffix). add_suffixes m ss q) (r.chosen compressed.suffixes chosen) in
    let shortest : Best names name (length compressed.octets) = best names knows (compresses_as rule m w (len m) name) all in
    let long : length (t.octets ++ encoded.octets) ≡ w + length compressed.octets = length-append t.octets encoded.octets ∙ ap (λ (xs : List ℕ). w + length xs) same in
    record {
      knows = knows_more rule m encoded.table names w (len m) q name knows all table g;
      in_range = subst (λ k. PartsInPointerRange b end k rest) (in_range_end name_ends in_range.1) in_range.2;
      rises = omega arith;
      attains = λ n s.
          let k : length compressed.octets + n ≡ length (t.octets ++ encoded.octets) - w + n = omega arith in
          subst (λ k. Compression names (CompressibleName name ∷ rest) k) k (attains_name names name rest (length compressed.octets) n shortest s);
      least = λ n s. let l = least_name names name rest (length compressed.octets) n shortest (name_parts s) in (l.0, l.1, omega (arith, l.2));
    }

-- A sound table is sound for more octets.
is_table_more : (m : CompressionTable) (b c : List ℕ) → IsTableOf b m → IsTableOf (b ++ c) m
is_table_more m b c r = record { each = λ s x e. kept_more m c s x (λ s x e. e) (r.each s x e) }

-- The encoding of a name is as short as possible.
pub shortens_name : (rule : Rule) (name : Labels) → CompressesShortest rule → IsName name → Shortens rule (encode_name rule name) (CompressibleName name ∷ [])
shortens_name rule name r is t =
    let w = length t.octets in
    let encoded = encode_name rule name t.table w in
    let compressed = compress rule t.table w (len t.table) name in
    let p = encodes_name rule name is in
    record {
      longer = subst (λ (x : Encoded). len t.table ≤ len x.table) (sym (r.writes name t.table w))
          (len_add_suffixes t.table (entering_suffixes rule compressed.suffixes) (w + length compressed.octets));
      keeps = p.keeps t;
      short = λ c names rest end h knows in_range few.
          let after = is_table_more encoded.table (t.octets ++ encoded.octets) c (p.keeps t h) in
          let small : 0 + name_size name ≤ max_size = let k = is.short in omega arith in
          name_short rule name t encoded c names rest end r.in_range is knows (r.writes name t.table w) (gets ((encode_name_grows rule name).grows t.table w))
          (compressed_ends 0 after small (compressed_more encoded.table c (λ s x e. e) (p.encodes t h))) in_range (r.few name t.table w few);
    }

-- Parts and those after them are as short as possible if both are.
short_both : (names : List Labels) (ps qs rest : List Part) (b d : List ℕ) (p q r end : ℕ) (m n : CompressionTable)
    → Short names ps (qs ++ rest) d p q end m → Short (added ps names) qs rest b q r end n → Short names (ps ++ qs) rest b p r end n
short_both names ps qs rest b d p q r end m n x y =
    let all = append_assoc ps qs rest in
    let up = x.rises in
    let on = y.rises in
    record {
      knows = subst (λ (l : List Labels). Knows n l) (added-append ps qs names) y.knows;
      in_range = y.in_range;
      rises = omega arith;
      attains = λ k s.
          let s' : Compression (added qs (added ps names)) rest k = subst (λ (l : List Labels). Compression l rest k) (sym (added-append ps qs names)) s in
          let total : q - p + (r - q + k) ≡ r - p + k = omega arith in
          subst (λ (l : List Part). Compression names l (r - p + k)) (sym all) (subst (λ i. Compression names (ps ++ (qs ++ rest)) i) total (x.attains (r - q + k) (y.attains k s')));
      least = λ k s.
          let first = x.least k (subst (λ (l : List Part). Compression names l k) all s) in
          let second = y.least first.0 first.1 in
          (second.0, subst (λ (l : List Labels). Compression l rest second.0) (added-append ps qs names) second.1, omega (arith, first.2, second.2));
    }

-- Two encodings appended in turn.
adds_both : (rule : Rule) (a b : Encoder) (ps qs : List Part) (t : Written) → Shortens rule a ps → Shortens rule b qs → AddsShort rule (ps ++ qs) t (append b (append a t))
adds_both rule a b ps qs t x y =
    let u = append a t in
    let v = append b u in
    let first = x t in
    let second = y u in
    let up = first.longer in
    let on = second.longer in
    record {
      longer = omega arith;
      keeps = λ h. second.keeps (first.keeps h);
      short = λ c names rest end h knows in_range few.
          let encoding = (b u.table (length u.octets)).octets in
          let e : v.octets ++ c ≡ u.octets ++ (encoding ++ c) = append_assoc u.octets encoding c in
          let in_range' = subst (λ (l : List Part). PartsInPointerRange (v.octets ++ c) end (length t.octets) l) (append_assoc ps qs rest) in_range in
          let one = first.short (encoding ++ c) names (qs ++ rest) end h knows
          (subst (λ (o : List ℕ). PartsInPointerRange o end (length t.octets) (ps ++ (qs ++ rest))) e in_range')
          (few_less rule (len u.table) (len v.table) on few) in
          let two = second.short c (added ps names) rest end (first.keeps h) one.knows (subst (λ (o : List ℕ). PartsInPointerRange o end (length u.octets) (qs ++ rest)) (sym e) one.in_range) few in
          short_both names ps qs rest (v.octets ++ c) (u.octets ++ (encoding ++ c)) (length t.octets) (length u.octets) (length v.octets) end u.table v.table one two;
    }

-- Two encodings in order.
pub shortens_both : (rule : Rule) (a b : Encoder) (ps qs : List Part) → Shortens rule a ps → Shortens rule b qs → Shortens rule (both a b) (ps ++ qs)
shortens_both rule a b ps qs x y t = subst (λ (u : Written). AddsShort rule (ps ++ qs) t u) (append-both a b t) (adds_both rule a b ps qs t x y)

-- The encoding of parts is as short as possible.
pub shortens_parts : (rule : Rule) (parts : List Part) → CompressesShortest rule → AreParts parts → Shortens rule (encode_parts rule parts) parts
unfolding encode_parts
shortens_parts rule [] r is = shortens_none rule
shortens_parts rule (Octets xs ∷ parts) r is = shortens_both rule (encode_octets xs) (encode_parts rule parts) (Octets xs ∷ []) parts (shortens_octets rule xs xs refl) (shortens_parts rule parts r is)
shortens_parts rule (CompressibleName name ∷ parts) r is = shortens_both rule (encode_name rule name) (encode_parts rule parts)
    (CompressibleName name ∷ []) parts (shortens_name rule name r is.0) (shortens_parts rule parts r is.1)
shortens_parts rule (UncompressedName lowercased name ∷ parts) r is =
    shortens_both rule (encode_octets (uncompressed name)) (encode_parts rule parts) (UncompressedName lowercased name ∷ []) parts
    (shortens_uncompressed rule lowercased name) (shortens_parts rule parts r is.1)

-- The encoding of parts preceded by their length is as short as possible.
pub shortens_with_length : (rule : Rule) (a : Encoder) (parts : List Part) → Shortens rule a parts → Shortens rule (with_length a) (Octets (0 ∷ 0 ∷ []) ∷ parts)
shortens_with_length rule a parts x t =
    let n = to_be_bytes w16 (length_of a t) in
    let two = shortens_both rule (encode_octets n) a (Octets (0 ∷ 0 ∷ []) ∷ []) parts (shortens_octets rule n (0 ∷ 0 ∷ []) refl) x in
    subst (λ (u : Written). AddsShort rule (Octets (0 ∷ 0 ∷ []) ∷ parts) t u) (append-with_length a t) (two t)

-- An empty table has exactly the suffixes of no names.
pub knows_nothing : Knows nothing []
knows_nothing = record {
  has = λ s h. absurd h;
  only = λ s x e. absurd (let k : None ≡ Some x = sym (get-empty suffix_cmp s) ∙ e in cc);
}

-- Parts added to a target with an empty table take the octets of a shortest compression.
pub encoded_shortest : (rule : Rule) (parts : List Part) (t u : Written) → AddsShort rule parts t u → IsTarget t → Knows t.table []
    → PartsInPointerRange u.octets (length u.octets) (length t.octets) parts → SharesAll rule (len u.table)
    → AddsShortest parts t u
encoded_shortest rule parts t u x h knows in_range few =
    let end = length u.octets in
    let w = length t.octets in
    let in_range' : PartsInPointerRange (u.octets ++ []) end w (parts ++ []) =
    subst (λ (l : List Part). PartsInPointerRange (u.octets ++ []) end w l) (sym (append-nil parts)) (subst (λ (o : List ℕ). PartsInPointerRange o end w parts) (sym (append-nil u.octets)) in_range) in
    let s = x.short [] [] [] end h knows in_range' few in
    let up = s.rises in (
      end - w,
      omega arith,
      record {
        compression = subst (λ (l : List Part). Compression [] l (end - w)) (append-nil parts)
            (subst (λ k. Compression [] (parts ++ []) k) (let e : end - w + 0 ≡ end - w = omega arith in e) (s.attains 0 none));
        least = λ n sp. let l = s.least n (subst (λ (l : List Part). Compression [] l n) (sym (append-nil parts)) sp) in omega (arith, l.2);
      },
    )

-- Parts written to a target with an empty table take the octets of a shortest compression.
pub parts_are_shortest : PartsAreShortest
parts_are_shortest rule b parts is few in_range =
    let t : Written = record { octets = b; table = nothing } in
    let u = append (encode_parts rule parts) t in
    encoded_shortest rule parts t u (shortens_parts rule parts (compresses_shortest rule (len u.table) few) is t) (nothing_is_kept b) knows_nothing in_range few
