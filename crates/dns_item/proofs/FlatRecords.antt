-- A record whose RDATA is octets alone is appended at once after its owner.
use Rattle.std.proofs.Common.{◌≡◌, ℕ, ◌+◌, ◌≤◌, ◌/◌, ◌%◌, Bool, Option, Result, List, [], ◌∷◌, ◌++◌, length, take, length-append, append_assoc, arith, sym, ap, ◌∙◌, refl, subst}
use Rattle.std.proofs.Math.ListN.{set}
use Rattle.std.proofs.Math.Seq.{take-append-add}
use Rattle.std.proofs.lemmas.Slice.{take-put_mid}
use borrow.Rule.Slice.PartMut.{put_mid}
use Rattle.std.proofs.lemmas.List.{append-nil, set-append_right}
use Rattle.std.specs.Int.{to_be_bytes, w16}
use Rattle.dns_octets.specs.declared.error.AppendError.{AppendError}
use Rattle.dns_wire.specs.Parts.{Part, Octets, encode_parts}
use Rattle.dns_wire.specs.Encoders.{Rule, encode_octets, both, with_length}
use Rattle.dns_wire.specs.Targets.{Written, Appends, Composes}
use Rattle.dns_wire.proofs.theory.EncoderLaws.{appends_compose}

-- fields, and octets after their length, are one encoding
pub at_once : (rule : Rule) (fields octets : List ℕ)
    → encode_octets (fields ++ (to_be_bytes w16 (length octets) ++ octets)) ≡ both (encode_octets fields) (with_length (encode_parts rule (Octets octets ∷ [])))
unfolding encode_parts
at_once rule fields octets = λ i m w. record {
  octets = fields ++ (to_be_bytes w16 (length (sym (append-nil octets) i)) ++ sym (append-nil octets) i);
  table = m;
}

-- one append composes them
pub composes_at_once : (capacity : Option ℕ) (grows : Bool) (rule : Rule) (fields octets : List ℕ) (parts : List Part) (t u : Written) (r : Result Unit AppendError)
    → parts ≡ Octets octets ∷ [] → Appends capacity grows (encode_octets (fields ++ (to_be_bytes w16 (length octets) ++ octets))) t u r
    → Composes capacity grows (both (encode_octets fields) (with_length (encode_parts rule parts))) t u r
composes_at_once capacity grows rule fields octets parts t u r is h =
    rw is (subst (λ encoder. Composes capacity grows encoder t u r) (at_once rule fields octets) (appends_compose _ _ _ _ _ _ h))

-- fields, a length below 256 and octets, as they are copied into an array
pub copied : (fields zeros octets f o : List ℕ) (k : ℕ) → length fields ≡ 8 → length octets ≤ 16 → f ≡ fields → o ≡ octets
    → take (10 + length octets) (put_mid 10 k (set (f ++ 0 ∷ 0 ∷ zeros) 9 (length octets)) o) ≡ fields ++ (to_be_bytes w16 (length octets) ++ octets)
copied fields zeros octets f o k size few ef eo =
    let n = length octets in
    let encoding : List ℕ = fields ++ 0 ∷ n ∷ zeros in
    let whole : set (f ++ 0 ∷ 0 ∷ zeros) 9 n ≡ encoding = rw ef (set-append_right fields (0 ∷ 0 ∷ zeros) 8 9 n size (omega arith)) in
    let long : 10 ≤ length encoding = rw length-append (omega arith) in
    let first : take 10 encoding ≡ fields ++ 0 ∷ n ∷ [] = subst (λ i. take (i + 2) encoding ≡ fields ++ 0 ∷ n ∷ []) size (take-append-add fields (0 ∷ n ∷ zeros) 2) in
    let high : n / 256 % 256 ≡ 0 = omega arith in
    let low : n % 256 ≡ n = omega arith in
    rw (whole, eo) (take-put_mid 10 k encoding octets (10 + n) refl long ∙ ap (λ (xs : List ℕ). xs ++ octets) first ∙ append_assoc fields (0 ∷ n ∷ []) octets ∙ rw (high, low) refl)
