-- Encodings in order, and what each of them writes.
use Rattle.std.proofs.Common.{◌≡◌, ℕ, ◌+◌, ◌≤◌, List, [], ◌∷◌, ◌++◌, length, length-append, append_assoc, arith, sym, ◌∙◌, refl}
use Rattle.std.proofs.Common.{subst, ◌-◌, ◌<◌, ◌^◌, ap, nat_le, Bool, true, false, cond, Option, Some, None, Ok, Err}
use Rattle.std.proofs.Math.Seq.{take-append_seam}
use Rattle.std.specs.Int.{to_be_bytes, from_be_bytes, w16, w32}
use Rattle.std.proofs.lemmas.Nat.{from_be_bytes-to_be_bytes_2, from_be_bytes-to_be_bytes_4}
use Rattle.std.proofs.lemmas.Grind.{common_steps}
use Rattle.std.proofs.lemmas.List.{take-append-le}
use Rattle.std.specs.FinMap.{get}
use Rattle.dns_octets.specs.declared.error.AppendError.{AppendError}
use Rattle.dns_octets.specs.declared.error.AppendError.TheVariants.{ShortBuf, OutOfMemory}
use Rattle.dns_name.specs.Names.{Labels, IsName, uncompressed}
use Rattle.dns_name.specs.Parsers.{number_at}
use Rattle.dns_wire.specs.Encoders.{Rule, Encoder, IsGrowing, encode_octets, both, encode_name, CompressionTable, with_length, TableEntry, cut, ends_within}
use Rattle.dns_wire.specs.Parts.{Part, Octets, CompressibleName, UncompressedName, PartsAt, AreParts, encode_parts}
use Rattle.dns_wire.specs.Targets.{At, Compressed, Written, IsTarget, append, cut_to, Fits, Exceeds, ComposeReturns, Composes}
use Rattle.dns_wire.specs.TargetLaws.{CutUndoes, AppendsCompose, ComposesBoth, ComposesFirst}
use Rattle.dns_wire.proofs.theory.CompressionTables.{cut-extends, cut-within, gets, get-cut, same_table}
use Rattle.dns_wire.proofs.theory.EncodedNames.{encode_name_grows, encode_octets_grows, both_grows, with_length_grows, ends_within_content, encodes_compressed_name, compressed_full}
use Rattle.dns_wire.proofs.theory.CompressedNames.{at_append, at_end, compressed_long, compressed_more, kept_more, name_at_up_to, ends_within_octets}

-- Targets with the same octets and the same table are the same.
pub same_written : (t u : Written) → t.octets ≡ u.octets → t.table ≡ u.table → t ≡ u
same_written t u p q = λ i. record { octets = p i; table = q i }

-- Truncating to the length before a growing encoding undoes it.
pub cut_undoes : CutUndoes
cut_undoes encoder t grows is =
    let encoded = encoder t.table (length t.octets) in
    same_written _ _ (take-append_seam t.octets encoded.octets)
    (cut-extends t.table encoded.table (length t.octets) (length t.octets + length encoded.octets) (length t.octets) (omega arith) (grows.grows t.table (length t.octets))
    ∙ cut-within t.table (length t.octets) (ends_within_content is))

-- Appending two encodings in turn appends both.
pub append-both : (a b : Encoder) (t : Written) → append b (append a t) ≡ append (both a b) t
append-both a b t = rw length-append (same_written _ _ (simp append_assoc) refl)

-- Appending the encoding keeps the table sound, and P holds of the offsets where it begins and ends.
pub record Encodes (encoder : Encoder) (P : Written → ℕ → ℕ → Type 0) : Type 0 where
  pub grows : IsGrowing encoder
  pub keeps : (t : Written) → IsTarget t → IsTarget (append encoder t)
  pub encodes : (t : Written) → IsTarget t → P (append encoder t) (length t.octets) (length (append encoder t).octets)

-- P still holds after each growing encoding is appended.
pub record IsStable (P : Written → ℕ → ℕ → Type 0) : Type 0 where
  pub stays : (encoder : Encoder) (t : Written) (p q : ℕ) → IsGrowing encoder → P t p q → P (append encoder t) p q

-- P holds up to an offset, and Q from there on.
abbrev pub Consecutive : (P Q : Written → ℕ → ℕ → Type 0) → Written → ℕ → ℕ → Type 0
Consecutive P Q t p q = (r : ℕ) × P t p r × Q t r q

-- Both are stable if each is.
pub stable_after : (P Q : Written → ℕ → ℕ → Type 0) → IsStable P → IsStable Q → IsStable (Consecutive P Q)
stable_after P Q f g = record { stays = λ encoder t p q grows h. (h.0, f.stays encoder t p h.0 grows h.1, g.stays encoder t h.0 q grows h.2) }

-- Two encodings in order write both.
pub encodes_both : (a b : Encoder) (P Q : Written → ℕ → ℕ → Type 0) → IsStable P → Encodes a P → Encodes b Q → Encodes (both a b) (Consecutive P Q)
encodes_both a b P Q f x y = record {
  grows = both_grows a b x.grows y.grows;
  keeps = λ t h. subst (λ (u : Written). IsTarget u) (append-both a b t) (y.keeps (append a t) (x.keeps t h));
  encodes = λ t h.
      let first = append a t in
      let second = append b first in
      let start = length t.octets in
      let middle = length first.octets in
      let two : Consecutive P Q second start (length second.octets) = (middle, f.stays b first start middle y.grows (x.encodes t h), y.encodes first (x.keeps t h)) in
      subst (λ (u : Written). Consecutive P Q u start (length u.octets)) (append-both a b t) two;
}

-- The octets are between the offsets.
abbrev pub HasOctets : List ℕ → Written → ℕ → ℕ → Type 0
HasOctets xs t p q = At t.octets p xs × (q ≡ p + length xs)

-- Octets are stable.
pub stable_octets : (xs : List ℕ) → IsStable (HasOctets xs)
stable_octets xs = record { stays = λ encoder t p q grows h. (at_append _ h.0, h.1) }

-- Octets are where they were written.
pub encodes_octets : (xs : List ℕ) → Encodes (encode_octets xs) (HasOctets xs)
encodes_octets xs = record {
  grows = encode_octets_grows xs;
  keeps = λ t h. record { each = λ s x e. kept_more t.table xs s x (λ s x e. e) (h.each s x e) };
  encodes = λ t h. (at_end t.octets xs, length-append t.octets xs);
}

-- The name is encoded between the offsets.
abbrev pub HasName : Labels → Written → ℕ → ℕ → Type 0
HasName name t p q = Compressed t.table t.octets q p name

-- Encoded names are stable.
pub stable_name : (name : Labels) → IsStable (HasName name)
stable_name name = record { stays = λ encoder t p q grows h. compressed_more _ _ (gets (grows.grows t.table (length t.octets))) h }

-- A name is encoded where it was written.
pub encodes_name : (rule : Rule) (name : Labels) → IsName name → Encodes (encode_name rule name) (HasName name)
encodes_name rule name is = record {
  grows = encode_name_grows rule name;
  keeps = λ t h. (encodes_compressed_name rule t.table t.octets name is h).is_table;
  encodes = λ t h.
      let encoded = encode_name rule name t.table (length t.octets) in
      let e : length t.octets + length encoded.octets ≡ length (t.octets ++ encoded.octets) = sym (length-append t.octets encoded.octets) in
      subst (λ q. Compressed encoded.table (t.octets ++ encoded.octets) q (length t.octets) name) e (encodes_compressed_name rule t.table t.octets name is h).compressed;
}

-- The parts are encoded between the offsets, in order.
abbrev pub HasParts : List Part → Written → ℕ → ℕ → Type 0
HasParts [] t p q = p ≡ q
HasParts (Octets xs ∷ parts) t p q = Consecutive (HasOctets xs) (HasParts parts) t p q
HasParts (CompressibleName name ∷ parts) t p q = Consecutive (HasName name) (HasParts parts) t p q
HasParts (UncompressedName lowercased name ∷ parts) t p q = Consecutive (HasOctets (uncompressed name)) (HasParts parts) t p q

-- Encoded parts are stable.
pub stable_parts : (parts : List Part) → IsStable (HasParts parts)
stable_parts [] = record { stays = λ encoder t p q grows h. h }
stable_parts (Octets xs ∷ parts) = stable_after (HasOctets xs) (HasParts parts) (stable_octets xs) (stable_parts parts)
stable_parts (CompressibleName name ∷ parts) = stable_after (HasName name) (HasParts parts) (stable_name name) (stable_parts parts)
stable_parts (UncompressedName lowercased name ∷ parts) =
    stable_after (HasOctets (uncompressed name)) (HasParts parts) (stable_octets (uncompressed name)) (stable_parts parts)

-- No parts are written.
encodes_none : Encodes (encode_octets []) (HasParts [])
encodes_none =
    let none = encodes_octets [] in
    record { grows = none.grows; keeps = λ t h. none.keeps t h; encodes = λ t h. let e = (none.encodes t h).1 in omega arith }

-- Parts are encoded where they were written.
pub encodes_parts : (rule : Rule) (parts : List Part) → AreParts parts → Encodes (encode_parts rule parts) (HasParts parts)
unfolding encode_parts
encodes_parts rule [] is = encodes_none
encodes_parts rule (Octets xs ∷ parts) is =
    encodes_both (encode_octets xs) (encode_parts rule parts) (HasOctets xs) (HasParts parts) (stable_octets xs) (encodes_octets xs) (encodes_parts rule parts is)
encodes_parts rule (CompressibleName name ∷ parts) is =
    encodes_both (encode_name rule name) (encode_parts rule parts) (HasName name) (HasParts parts) (stable_name name) (encodes_name rule name is.0) (encodes_parts rule parts is.1)
encodes_parts rule (UncompressedName lowercased name ∷ parts) is =
    let xs = uncompressed name in
    encodes_both (encode_octets xs) (encode_parts rule parts) (HasOctets xs) (HasParts parts) (stable_octets xs) (encodes_octets xs) (encodes_parts rule parts is.1)

-- Parts end at or after their beginning.
pub parts_rise : (parts : List Part) (t : Written) (p q : ℕ) → HasParts parts t p q → p ≤ q
parts_rise [] t p q h = omega arith
parts_rise (Octets xs ∷ parts) t p q h = let r = parts_rise parts t h.0 q h.2 in let e = h.1.1 in omega arith
parts_rise (CompressibleName name ∷ parts) t p q h = let r = parts_rise parts t h.0 q h.2 in let w = compressed_long h.1 in omega arith
parts_rise (UncompressedName lowercased name ∷ parts) t p q h = let r = parts_rise parts t h.0 q h.2 in let e = h.1.1 in omega arith

-- Parts end within the content.
pub parts_within : (parts : List Part) (t : Written) (p q : ℕ) → p ≤ length t.octets → HasParts parts t p q → q ≤ length t.octets
parts_within [] t p q l h = omega arith
parts_within (Octets xs ∷ parts) t p q l h = let w = h.1.0.within in let e = h.1.1 in parts_within parts t h.0 q (omega arith) h.2
parts_within (CompressibleName name ∷ parts) t p q l h = let w = compressed_long h.1 in parts_within parts t h.0 q w.1 h.2
parts_within (UncompressedName lowercased name ∷ parts) t p q l h = let w = h.1.0.within in let e = h.1.1 in parts_within parts t h.0 q (omega arith) h.2

-- Parts encoded in a target satisfy `PartsAt`.
pub parts_at : (parts : List Part) (t : Written) (p q : ℕ) → AreParts parts → IsTarget t → HasParts parts t p q → PartsAt t.octets q p parts
parts_at [] t p q is good h = h
parts_at (Octets xs ∷ parts) t p q is good h =
    (h.1.0.same, subst (λ r. PartsAt t.octets q r parts) h.1.1 (parts_at parts t h.0 q is good h.2))
parts_at (CompressibleName name ∷ parts) t p q is good h =
    let l = parts_rise parts t h.0 q h.2 in
    (h.0, name_at_up_to q good l is.0.short h.1, ends_within_octets q good l is.0.short h.1, parts_at parts t h.0 q is.1 good h.2)
parts_at (UncompressedName lowercased name ∷ parts) t p q is good h =
    let l = parts_rise parts t h.0 q h.2 in
    let s = compressed_full t.table t.octets h.0 p name is.0 h.1.0 h.1.1 in
    (h.0, name_at_up_to q good l is.0.short s, ends_within_octets q good l is.0.short s, parts_at parts t h.0 q is.1 good h.2, h.1.1)

-- Numbers at offsets, and encodings preceded by their length.

-- A number of two octets is read where its octets are.
pub number_16 : (b : List ℕ) (p n : ℕ) → n < 2 ^ 16 → At b p (to_be_bytes w16 n) → number_at w16 b p ≡ n
number_16 b p n l h = ap (from_be_bytes w16) h.same ∙ from_be_bytes-to_be_bytes_2 n l

-- So is a number of four octets.
pub number_32 : (b : List ℕ) (p n : ℕ) → n < 2 ^ 32 → At b p (to_be_bytes w32 n) → number_at w32 b p ≡ n
number_32 b p n l h = ap (from_be_bytes w32) h.same ∙ from_be_bytes-to_be_bytes_4 n l

-- Two octets hold the length of what follows them up to q, and P holds of the offsets after them and q.
abbrev pub HasLength : (Written → ℕ → ℕ → Type 0) → Written → ℕ → ℕ → Type 0
HasLength P t p q = At t.octets p (to_be_bytes w16 (q - (p + 2))) × P t (p + 2) q × (q ≤ p + 2 + 65535)

-- This is stable.
pub stable_length : (P : Written → ℕ → ℕ → Type 0) → IsStable P → IsStable (HasLength P)
stable_length P f = record { stays = λ encoder t p q grows h. (at_append _ h.0, f.stays encoder t (p + 2) q grows h.1, h.2) }

-- The octets that an encoding takes after its length.
pub length_of : Encoder → Written → ℕ
length_of a t = length (a t.table (length t.octets + 2)).octets

-- An encoding preceded by its length is two encodings.
pub append-with_length : (a : Encoder) (t : Written) → append (both (encode_octets (to_be_bytes w16 (length_of a t))) a) t ≡ append (with_length a) t
unfolding length_of
append-with_length a t = refl

size-with_length : (a : Encoder) (t : Written)
    → length (append (both (encode_octets (to_be_bytes w16 (length_of a t))) a) t).octets ≡ length t.octets + 2 + length_of a t
unfolding length_of
size-with_length a t =
    let encoding = (a t.table (length t.octets + 2)).octets in
    let n = length-append t.octets (to_be_bytes w16 (length encoding) ++ encoding) in
    omega arith

length_small : (a : Encoder) (t : Written) → ((m : CompressionTable) (w : ℕ) → length (a m w).octets ≤ 65535) → length_of a t ≤ 65535
unfolding length_of
length_small a t small = small t.table (length t.octets + 2)

-- An encoding of at most 65,535 octets is written after its length.
pub encodes_with_length : (a : Encoder) (P : Written → ℕ → ℕ → Type 0) → ((m : CompressionTable) (w : ℕ) → length (a m w).octets ≤ 65535) → Encodes a P → Encodes (with_length a) (HasLength P)
encodes_with_length a P small x = record {
  grows = with_length_grows a x.grows;
  keeps = λ t h.
      let length_octets = to_be_bytes w16 (length_of a t) in
      subst (λ (u : Written). IsTarget u) (append-with_length a t)
      ((encodes_both (encode_octets length_octets) a (HasOctets length_octets) P (stable_octets length_octets) (encodes_octets length_octets) x).keeps t h);
  encodes = λ t h.
      let n = length_of a t in
      let u = append (both (encode_octets (to_be_bytes w16 n)) a) t in
      let p = length t.octets in
      let two = (encodes_both (encode_octets (to_be_bytes w16 n)) a (HasOctets (to_be_bytes w16 n)) P (stable_octets (to_be_bytes w16 n)) (encodes_octets (to_be_bytes w16 n)) x).encodes t h in
      let size = size-with_length a t in
      let is : n ≡ length u.octets - (p + 2) = omega arith in
      let few : n ≤ 65535 = length_small a t small in
      subst (λ (v : Written). HasLength P v p (length v.octets)) (append-with_length a t)
      (subst (λ k. At u.octets p (to_be_bytes w16 k)) is two.1.0, subst (λ r. P u r (length u.octets)) two.1.1 two.2, omega arith);
}

-- Encodings that are appended in several steps.

-- Of two truncations of an entry the shorter one counts.
twice_at : (d e : ℕ) (x : TableEntry) (p : Option TableEntry) → d ≤ e → (b : Bool) → nat_le x.end e ≡ b → p ≡ cond b (Some x) None → cond (ends_within d p) p None ≡ cond (nat_le x.end d) (Some x) None
twice_at d e x p l true is h = rw h refl
twice_at d e x p l false is h = rw h (let late : e < x.end = grind (arith, common_steps) in grind (arith, common_steps))

-- The same if there is no entry.
twice : (d e : ℕ) (o p : Option TableEntry) → d ≤ e → p ≡ cond (ends_within e o) o None → cond (ends_within d p) p None ≡ cond (ends_within d o) o None
twice d e None p l h = rw h refl
twice d e (Some x) p l h = twice_at d e x p l (nat_le x.end e) refl h

-- Of two truncations of a table the shorter one counts.
pub cut-cut : (m : CompressionTable) (d e : ℕ) → d ≤ e → cut (cut m e) d ≡ cut m d
cut-cut m d e l = same_table _ _ (λ q. get-cut (cut m e) d q ∙ twice d e (get m q) (get (cut m e) q) l (get-cut m e q) ∙ sym (get-cut m d q))

-- Of two truncations of a target the shorter one counts.
cut_to-cut_to : (t : Written) (d e : ℕ) → d ≤ e → cut_to d (cut_to e t) ≡ cut_to d t
cut_to-cut_to t d e l = same_written _ _ (grind (arith, common_steps)) (cut-cut t.table d e l)

-- Truncating to or below the length before a growing encoding leaves nothing of it.
pub cut_to-append : (encoder : Encoder) (t : Written) (w : ℕ) → IsGrowing encoder → w ≤ length t.octets → cut_to w (append encoder t) ≡ cut_to w t
cut_to-append encoder t w g l = same_written _ _ (take-append-le w t.octets _ l) (cut-extends t.table _ (length t.octets) _ w l (g.grows t.table (length t.octets)))

-- If n octets exceed the capacity, so do k ≥ n.
exceeds_more : (capacity : Option ℕ) (n k : ℕ) → n ≤ k → Exceeds capacity n → Exceeds capacity k
exceeds_more None n k l h = h
exceeds_more (Some r) n k l h = omega arith

-- One append of an encoding composes it.
pub appends_compose : AppendsCompose
appends_compose capacity grows a t u (Ok x) h = record { ok = h.ok; err = h.err; outcome = h.outcome }
appends_compose capacity grows a t u (Err ShortBuf) h = record { ok = h.ok; err = ap (cut_to (length t.octets)) h.err; outcome = h.outcome }
appends_compose capacity grows a t u (Err OutOfMemory) h = record { ok = h.ok; err = ap (cut_to (length t.octets)) h.err; outcome = h.outcome.1 }

-- An encoding that is composed after a written one composes both.
pub composes_both : ComposesBoth
composes_both capacity grows a b t u v (Ok x) g e h = record {
  ok = h.ok ∙ (ap (append b) e ∙ append-both a b t);
  err = tt;
  outcome = subst (λ w. Fits capacity (length w.octets)) (ap (append b) e ∙ append-both a b t) h.outcome;
}
composes_both capacity grows a b t u v (Err d) g e h = record {
  ok = tt;
  err =
      let longer : length t.octets ≤ length u.octets = rw e (rw length-append (omega arith)) in
      sym (cut_to-cut_to v (length t.octets) (length u.octets) longer) ∙ ap (cut_to (length t.octets)) h.err
      ∙ cut_to-cut_to u _ _ longer ∙ ap (cut_to (length t.octets)) e ∙ cut_to-append a t (length t.octets) g (omega arith);
  outcome = subst (λ w. ComposeReturns {X = Unit} capacity grows (length w.octets) (Err d)) (ap (append b) e ∙ append-both a b t) h.outcome;
}

-- An error in composing the first encoding is one in composing both.
stopped : (capacity : Option ℕ) (grows : Bool) (a b : Encoder) (t u : Written) (e : AppendError)
    → Composes capacity grows a t u {X = Unit} (Err e) → Composes capacity grows (both a b) t u {X = Unit} (Err e)
stopped capacity grows a b t u ShortBuf h = record {
  ok = tt;
  err = h.err;
  outcome = exceeds_more capacity (length (append a t).octets) (length (append (both a b) t).octets) (rw (length-append, length-append, length-append) (omega arith)) h.outcome;
}
stopped capacity grows a b t u OutOfMemory h = record { ok = tt; err = h.err; outcome = h.outcome }

-- If composing the first of two encodings fails, so does composing both.
pub composes_first : ComposesFirst
composes_first capacity grows a b t u r q e is out h = rw out (stopped capacity grows a b t u e (rw is at h))
