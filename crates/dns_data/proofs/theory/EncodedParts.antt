-- Parts that fill a range of octets are read by each layout that they have.
use Rattle.std.proofs.Common.{Bool, true, false, eq-eqb, ◌≡◌, ℕ, ◌+◌, ◌-◌, ◌*◌, ◌<◌, ◌≤◌, List, [], ◌∷◌, length, take, drop, slice_index, slice_range, ap, sym, ◌∙◌, refl, subst, arith}
use Rattle.std.specs.Prelude.{IsTrue}
use Rattle.std.proofs.lemmas.List.{drop-take, take-take, length-take-le, get_or-take, get_or-drop}
use Rattle.dns_wire.specs.Parts.{Part, PartsAt}
use Rattle.dns_wire.specs.Parts.Part.{Octets, CompressibleName, UncompressedName}
use Rattle.dns_name.proofs.theory.ExtentLaws.{ends_after}
use Rattle.dns_name.specs.Names.{Labels, uncompressed}
use Rattle.dns_data.specs.Layout.{string_size, octets_size, may_be_encoded, DataAt}
use Rattle.dns_data.specs.Layout.Layout.{End, Rest, AtMost, Fixed, CharacterString, SizedOctets, DomainName, UncompressedDomainName}
use Rattle.dns_data.specs.Laws.{EncodedPartsRead}

-- parts end at or after their offset
parts_rise : (b : List ℕ) (end p : ℕ) (parts : List Part) → PartsAt b end p parts → p ≤ end
parts_rise b end p [] h = omega arith
parts_rise b end p (Octets octets ∷ parts) h = let l = parts_rise b end (p + length octets) parts h.1 in omega arith
parts_rise b end p (CompressibleName name ∷ parts) h = let l = parts_rise b end h.0 parts h.3 in let w = ends_after h.2 in omega arith
parts_rise b end p (UncompressedName a name ∷ parts) h = let l = parts_rise b end h.0 parts h.3 in let w = ends_after h.2 in omega arith

-- octets before an end are the same if only the octets up to it are seen
range_before : (b : List ℕ) (end p n : ℕ) → p + n ≤ end → slice_range (take end b) p (p + n) ≡ slice_range b p (p + n)
range_before b end p n l =
    let more : end ≡ p + (end - p) = omega arith in
    let few : p + n - p ≤ end - p = omega arith in
    ap (λ e. take (p + n - p) (drop p (take e b))) more ∙ ap (take (p + n - p)) (drop-take p (end - p) b) ∙ take-take (p + n - p) (end - p) (drop p b) few

-- the size of a character string is given by the octet at its offset
pub string_size-range : (b : List ℕ) (p n : ℕ) (octets : List ℕ) → 0 < n → slice_range b p (p + n) ≡ octets → string_size octets 0 ≡ string_size b p
string_size-range b p n octets l is =
    let size : p + n - p ≡ n = omega arith in
    let start : p + 0 ≡ p = omega arith in
    let first : slice_index (slice_range b p (p + n)) 0 ≡ slice_index b p = ap (λ k. slice_index (take k (drop p b)) 0) size ∙ get_or-take n (drop p b) 0 0 l
    ∙ get_or-drop p b 0 0 ∙ ap (slice_index b) start in
    ap (λ (xs : List ℕ). string_size xs 0) (sym is) ∙ ap (λ k. 1 + k) first

-- the size of octets preceded by their length is given by the two octets at their offset
pub octets_size-range : (b : List ℕ) (p n : ℕ) (octets : List ℕ) → 1 < n → slice_range b p (p + n) ≡ octets → octets_size octets 0 ≡ octets_size b p
octets_size-range b p n octets l is =
    let size : p + n - p ≡ n = omega arith in
    let start : p + 0 ≡ p = omega arith in
    let first : slice_index (slice_range b p (p + n)) 0 ≡ slice_index b p = ap (λ k. slice_index (take k (drop p b)) 0) size ∙ get_or-take n (drop p b) 0 0
    (omega arith) ∙ get_or-drop p b 0 0 ∙ ap (slice_index b) start in
    let second : slice_index (slice_range b p (p + n)) 1 ≡ slice_index b (p + 1) = ap (λ k. slice_index (take k (drop p b)) 1) size ∙ get_or-take n (drop p b) 1 0 l ∙ get_or-drop p b 1 0 in
    ap (λ (xs : List ℕ). octets_size xs 0) (sym is) ∙ (ap (λ k. 2 + (k * 256 + slice_index (slice_range b p (p + n)) 1)) first ∙ ap (λ k. 2 + (slice_index b p * 256 + k)) second)

-- a name that takes all its octets may be encoded in each field
whole_may_be_encoded : (pointers : Bool) (name : Labels) (p q : ℕ) → q ≡ p + length (uncompressed name) → may_be_encoded pointers name p q ≡ true
whole_may_be_encoded true name p q e = refl
whole_may_be_encoded false name p q e = eq-eqb q (p + length (uncompressed name)) e

-- Parts that are encoded are read back by the layout that they have.
pub encoded_parts_read : EncodedPartsRead
encoded_parts_read b end p End parts l h is = by parts h is
  where
    by : (parts : List Part) → PartsAt b end p parts → parts ≡ [] → (end ≡ p) × (parts ≡ [])
    by [] h is = (sym h, refl)
    by (part ∷ parts) h is = cc
encoded_parts_read b end p (Rest accepts) parts l h (octets, is, good) =
    let encoded : PartsAt b end p (Octets octets ∷ []) = subst (λ (xs : List Part). PartsAt b end p xs) is h in
    let rest : drop p (take end b) ≡ octets =
    ap (λ e. drop p (take e b)) (sym encoded.1) ∙ drop-take p (length octets) b
    ∙ ap (λ n. take n (drop p b)) (let n : length octets ≡ p + length octets - p = omega arith in n) ∙ encoded.0 in
    (sym (length-take-le end b l), is ∙ ap (λ (xs : List ℕ). Octets xs ∷ []) (sym rest), subst (λ (xs : List ℕ). IsTrue (accepts xs)) (sym rest) good)
encoded_parts_read b end p (AtMost n layout) parts l h is = (is.0, encoded_parts_read b end p layout parts l h is.1)
encoded_parts_read b end p (Fixed n layout) [] l h is = absurd is
encoded_parts_read b end p (Fixed n layout) (CompressibleName name ∷ parts) l h is = absurd is
encoded_parts_read b end p (Fixed n layout) (UncompressedName a name ∷ parts) l h is = absurd is
encoded_parts_read b end p (Fixed n layout) (Octets octets ∷ parts) l h is =
    let after : PartsAt b end (p + n) parts = subst (λ k. PartsAt b end (p + k) parts) is.0 h.1 in
    let here : slice_range b p (p + n) ≡ octets = subst (λ k. slice_range b p (p + k) ≡ octets) is.0 h.0 in
    (is.0, range_before b end p n (parts_rise b end (p + n) parts after) ∙ here, encoded_parts_read b end (p + n) layout parts l after is.1)
encoded_parts_read b end p (CharacterString layout) [] l h is = absurd is
encoded_parts_read b end p (CharacterString layout) (CompressibleName name ∷ parts) l h is = absurd is
encoded_parts_read b end p (CharacterString layout) (UncompressedName a name ∷ parts) l h is = absurd is
encoded_parts_read b end p (CharacterString layout) (Octets octets ∷ parts) l h is =
    let next = p + length octets in
    let here : slice_range (take end b) p next ≡ octets = range_before b end p (length octets) (parts_rise b end next parts h.1) ∙ h.0 in
    let size : length octets ≡ string_size (take end b) p = is.0 ∙ string_size-range (take end b) p (length octets) octets (omega (arith, is.0)) here in
    (size, subst (λ k. slice_range (take end b) p (p + k) ≡ octets) size here, subst (λ k. DataAt (take end b) layout (p + k) end parts) size (encoded_parts_read b end next layout parts l h.1 is.1))
encoded_parts_read b end p (SizedOctets layout) [] l h is = absurd is
encoded_parts_read b end p (SizedOctets layout) (CompressibleName name ∷ parts) l h is = absurd is
encoded_parts_read b end p (SizedOctets layout) (UncompressedName a name ∷ parts) l h is = absurd is
encoded_parts_read b end p (SizedOctets layout) (Octets octets ∷ parts) l h is =
    let next = p + length octets in
    let here : slice_range (take end b) p next ≡ octets = range_before b end p (length octets) (parts_rise b end next parts h.1) ∙ h.0 in
    let size : length octets ≡ octets_size (take end b) p = is.0 ∙ octets_size-range (take end b) p (length octets) octets (omega (arith, is.0)) here in
    (size, subst (λ k. slice_range (take end b) p (p + k) ≡ octets) size here, subst (λ k. DataAt (take end b) layout (p + k) end parts) size (encoded_parts_read b end next layout parts l h.1 is.1))
encoded_parts_read b end p (DomainName layout) [] l h is = absurd is
encoded_parts_read b end p (DomainName layout) (Octets octets ∷ parts) l h is = absurd is
encoded_parts_read b end p (DomainName layout) (CompressibleName name ∷ parts) l h is = (h.0, h.1, h.2, encoded_parts_read b end h.0 layout parts l h.3 is)
encoded_parts_read b end p (DomainName layout) (UncompressedName a name ∷ parts) l h is = absurd is
encoded_parts_read b end p (UncompressedDomainName pointers lowercased layout) [] l h is = absurd is
encoded_parts_read b end p (UncompressedDomainName pointers lowercased layout) (Octets octets ∷ parts) l h is = absurd is
encoded_parts_read b end p (UncompressedDomainName pointers lowercased layout) (CompressibleName name ∷ parts) l h is = absurd is
encoded_parts_read b end p (UncompressedDomainName pointers lowercased layout) (UncompressedName a name ∷ parts) l h is =
    (h.0, h.1, h.2, encoded_parts_read b end h.0 layout parts l h.3 is.1, is.0, whole_may_be_encoded pointers name p h.0 h.4)
