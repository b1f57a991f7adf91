-- Records after octets that are overwritten.
use Rattle.std.proofs.Common.{◌≡◌, ◌∙◌, ℕ, ◌+◌, ◌-◌, ◌<◌, ◌≤◌, List, take, drop, length, arith, refl, sym, ap}
use Rattle.std.specs.Prelude.{slice_get}
use Rattle.std.specs.Int.{w16, w32, from_be_bytes}
use Rattle.std.proofs.lemmas.Grind.{common_steps}
use Rattle.std.proofs.lemmas.List.{drop-drop}
use Rattle.dns_octets.specs.Octets.{overwritten}
use Rattle.dns_octets.proofs.theory.Overwritten.{kept_after}
use Rattle.dns_name.specs.Names.{head_at, NameContinues}
use Rattle.dns_name.specs.Parsers.{number_at}
use Rattle.dns_name.proofs.theory.HeadLemmas.{same_head}
use Rattle.dns_wire.proofs.theory.Stability.{get_dropped, same_part}
use Rattle.dns_item.specs.Items.{SkipsRecord}
use Rattle.dns_read.specs.Reading.{Skipped}
use Rattle.dns_read.specs.Reading.Skipped.{none, more}
use Rattle.dns_edit.specs.Ttls.{TtlFields, holds_ttl}
use Rattle.dns_edit.proofs.EntryLemmas.{long_record}

-- the same octets from offset q on
pub record SameFrom (b c : List ℕ) (q : ℕ) : Type 0 where
  pub long : length b ≡ length c
  pub octets : drop q b ≡ drop q c

module _ {b c : List ℕ} {q : ℕ} (same : SameFrom b c q) where
  -- octets at or after offset q are the same in both
  pub dropped : (p : ℕ) → q ≤ p → drop p b ≡ drop p c
  dropped p l =
      let e : q + (p - q) ≡ p = omega arith in
      ap (λ n. drop n b) (sym e) ∙ sym (drop-drop (p - q) q b) ∙ ap (drop (p - q)) same.octets ∙ drop-drop (p - q) q c ∙ ap (λ n. drop n c) e

  -- an octet at or after offset q is the same in both
  pub get_same : (p : ℕ) → q ≤ p → slice_get b p ≡ slice_get c p
  get_same p l =
      let e : p + 0 ≡ p = omega arith in
      ap (slice_get b) (sym e) ∙ sym (get_dropped b p 0) ∙ ap (λ (xs : List ℕ). slice_get xs 0) (dropped p l) ∙ get_dropped c p 0 ∙ ap (slice_get c) e

  -- what begins at or after offset q is the same in both
  pub head_same : (p : ℕ) → q ≤ p → head_at b p ≡ head_at c p
  head_same p l = same_head b c p (get_same p l) (get_same (p + 1) (omega arith))

  -- a 16-bit number at or after offset q is the same in both
  pub number_same16 : (p : ℕ) → q ≤ p → number_at w16 b p ≡ number_at w16 c p
  number_same16 p l = ap (λ (xs : List ℕ). from_be_bytes w16 (take (p + 2 - p) xs)) (dropped p l)

  -- the encoding of a name at or after offset q has the same end in both
  pub continues_same : {p s r : ℕ} → q ≤ p → NameContinues b p s r → NameContinues c p s r
  continues_same l (NameContinues.root {p = p} h) = NameContinues.root (sym (head_same p l) ∙ h)
  continues_same l (NameContinues.pointer {p = p} h) = NameContinues.pointer (sym (head_same p l) ∙ h)
  continues_same l (NameContinues.label {p = p} {n = n} h small fits x) =
      let w = same.long in
      NameContinues.label (sym (head_same p l) ∙ h) small (omega arith) (continues_same (omega arith) x)

  -- a record at or after offset q has the same end in both, and so has its owner
  abbrev pub skips_same : {p r : ℕ} → q ≤ p → (s : SkipsRecord b p r) → (t : SkipsRecord c p r) × (t.name_end ≡ s.name_end)
  skips_same l s =
      let w = long_record b s in
      let low = w.0 in
      let long = same.long in
      let e = s.end in
      let inside = s.within in
      let n = number_same16 (s.name_end + 8) (omega arith) in
      (record { name_end = s.name_end; name_ends = continues_same l s.name_ends; end = omega arith; within = omega arith }, refl)

  -- consecutive records at or after offset q have the same end in both
  pub skipped_same : {n p r : ℕ} → q ≤ p → Skipped (SkipsRecord b) n p r → Skipped (SkipsRecord c) n p r
  skipped_same l none = none
  skipped_same l (more s x) =
      let w = long_record b s in more (skips_same l s).0 (skipped_same (omega (arith, w.0, w.1)) x)

  -- consecutive records at or after offset q have the same TTL fields in both
  pub ttls_same : {n p : ℕ} {fields : List ℕ} → q ≤ p → TtlFields b n p fields → TtlFields c n p fields
  ttls_same l TtlFields.none = TtlFields.none
  ttls_same l (TtlFields.held s h rest) =
      let w = long_record b s in
      let low = w.0 in
      TtlFields.held (skips_same l s).0 (ap holds_ttl (sym (number_same16 s.name_end (omega arith))) ∙ h) (ttls_same (omega (arith, w.0, w.1)) rest)
  ttls_same l (TtlFields.other s h rest) =
      let w = long_record b s in
      let low = w.0 in
      TtlFields.other (skips_same l s).0 (ap holds_ttl (sym (number_same16 s.name_end (omega arith))) ∙ h) (ttls_same (omega (arith, w.0, w.1)) rest)

-- the same n octets from offset p on, in messages of the same length
pub record SameOctets (b c : List ℕ) (p n : ℕ) : Type 0 where
  pub long : length b ≡ length c
  pub octets : (k : ℕ) → p ≤ k → k < p + n → slice_get b k ≡ slice_get c k

module _ {b c : List ℕ} {p n : ℕ} (same : SameOctets b c p n) where
  -- a 16-bit number in these octets is the same in both
  pub octets_same16 : (k : ℕ) → p ≤ k → k + 2 ≤ p + n → number_at w16 b k ≡ number_at w16 c k
  octets_same16 k low high =
      let e : k + 2 - k ≡ 2 = omega arith in
      let part = same_part b c 2 k (λ i l m. same.octets i (omega arith) (omega arith)) in
      ap (λ n. from_be_bytes w16 (take n (drop k b))) e ∙ ap (from_be_bytes w16) part ∙ ap (λ n. from_be_bytes w16 (take n (drop k c))) (sym e)

  -- and so is a 32-bit number
  pub octets_same32 : (k : ℕ) → p ≤ k → k + 4 ≤ p + n → number_at w32 b k ≡ number_at w32 c k
  octets_same32 k low high =
      let e : k + 4 - k ≡ 4 = omega arith in
      let part = same_part b c 4 k (λ i l m. same.octets i (omega arith) (omega arith)) in
      ap (λ n. from_be_bytes w32 (take n (drop k b))) e ∙ ap (from_be_bytes w32) part ∙ ap (λ n. from_be_bytes w32 (take n (drop k c))) (sym e)

-- Octets at or after an offset from which all are the same are the same.
pub same_octets : {b c : List ℕ} {q : ℕ} → SameFrom b c q → (p n : ℕ) → q ≤ p → SameOctets b c p n
same_octets same p n low = record { long = same.long; octets = λ k l m. get_same same k (omega arith) }

-- Overwriting octets keeps the length.
pub as_long : (b xs : List ℕ) (p : ℕ) → p + length xs ≤ length b → length b ≡ length (overwritten b p xs)
as_long b xs p within = grind (arith, common_steps)

-- octets that are overwritten change none after them
pub same_after : (b xs : List ℕ) (p q : ℕ) → p + length xs ≤ q → q ≤ length b → SameFrom b (overwritten b p xs) q
same_after b xs p q l within =
    let e = p + length xs in
    let near : SameFrom b (overwritten b p xs) e = record { long = as_long b xs p (omega arith); octets = sym (kept_after b xs p e refl (omega arith)) } in
    record { long = near.long; octets = dropped near q l }
