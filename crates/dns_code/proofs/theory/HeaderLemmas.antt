-- What changing a bit, the opcode or the rcode does to the fields of a header.
use Rattle.std.proofs.Common.{◌≡◌, ◌≢◌, ◌∙◌, ℕ, ◌*◌, ◌%◌, ◌<◌, ◌≤◌, Bool, List, length, ap, arith, refl, slice_set, slice_index, bit_and, bit_or, min, max, nat_eq, ◌⊎◌, inl, inr}
use Rattle.std.proofs.lemmas.Nat.{and_mask}
use Rattle.std.proofs.lemmas.Nat.Bits.{bit_at_and, bit_at_or, bit_at-lt}
use Rattle.std.proofs.lemmas.Grind.{common_steps}
use Rattle.dns_code.specs.Bits.{bit, bits, ChangesBit}
use Rattle.dns_code.specs.Header.{fields_in}

-- the fields after octet 2 is replaced
octet_2 : (b : List ℕ) (x : ℕ) (qr aa tc rd : Bool) (opcode : ℕ) → length b ≡ 4 → bit x 7 ≡ qr → bits x 3 4 ≡ opcode → bit x 2 ≡ aa → bit x 1 ≡ tc → bit x 0 ≡ rd
    → fields_in (slice_set b 2 x) ≡ record (fields_in b) { qr = qr; opcode = opcode; aa = aa; tc = tc; rd = rd }
octet_2 b x qr aa tc rd opcode h h7 h3 h2 h1 h0 = grind (arith, common_steps)

-- the fields after octet 3 is replaced
octet_3 : (b : List ℕ) (x : ℕ) (ra z ad cd : Bool) (rcode : ℕ) → length b ≡ 4 → bit x 7 ≡ ra → bit x 6 ≡ z → bit x 5 ≡ ad → bit x 4 ≡ cd → bits x 0 4 ≡ rcode
    → fields_in (slice_set b 3 x) ≡ record (fields_in b) { ra = ra; z = z; ad = ad; cd = cd; rcode = rcode }
octet_3 b x ra z ad cd rcode h h7 h6 h5 h4 h0 = grind (arith, common_steps)

-- a bit as a Boolean stays if its number does
same_bit : (m n k : ℕ) → bits n k 1 ≡ bits m k 1 → bit n k ≡ bit m k
same_bit m n k same = ap (λ (x : ℕ). nat_eq x 1) same

-- the opcode stays if its four bits do
opcode_kept : (m n : ℕ) → ((k : ℕ) → 3 ≤ k → k < 7 → bits n k 1 ≡ bits m k 1) → bits n 3 4 ≡ bits m 3 4
opcode_kept m n same = omega (arith, same 3 (omega arith) (omega arith), same 4 (omega arith) (omega arith), same 5 (omega arith) (omega arith), same 6 (omega arith) (omega arith))

-- the rcode stays if its four bits do
rcode_kept : (m n : ℕ) → ((k : ℕ) → k < 4 → bits n k 1 ≡ bits m k 1) → bits n 0 4 ≡ bits m 0 4
rcode_kept m n same = omega (arith, same 0 (omega arith), same 1 (omega arith), same 2 (omega arith), same 3 (omega arith))

module _ (b : List ℕ) (x : ℕ) (set : Bool) (all : length b ≡ 4) where
  -- a bit other than the changed one stays
  kept : (octet offset : ℕ) → ChangesBit octet x offset set → (k : ℕ) → k < 8 → k ≢ offset → bit x k ≡ bit octet k
  kept octet offset changes k within other = same_bit octet x k (changes.others k within other)

  -- the opcode stays if the changed bit isn't one of its own
  opcode_stays : (offset : ℕ) → ChangesBit (slice_index b 2) x offset set → (offset ≡ 7) ⊎ (offset < 3) → bits x 3 4 ≡ bits (slice_index b 2) 3 4
  opcode_stays offset changes h = opcode_kept _ _ (λ k low high. changes.others k (omega arith) (omega arith))

  -- the rcode stays if the changed bit isn't one of its own
  rcode_stays : (offset : ℕ) → ChangesBit (slice_index b 3) x offset set → 4 ≤ offset → bits x 0 4 ≡ bits (slice_index b 3) 0 4
  rcode_stays offset changes h = rcode_kept _ _ (λ k low. changes.others k (omega arith) (omega arith))

  -- writing bit 7 of octet 2 changes QR alone
  pub qr_changed : ChangesBit (slice_index b 2) x 7 set → fields_in (slice_set b 2 x) ≡ record (fields_in b) { qr = set }
  qr_changed changes =
      let o : (k : ℕ) → k < 8 → k ≢ 7 → bit x k ≡ bit (slice_index b 2) k = kept _ 7 changes in
      octet_2 b x set _ _ _ _ all changes.changed (opcode_stays 7 changes (inl refl)) (o 2 (omega arith) (omega arith)) (o 1 (omega arith) (omega arith)) (o 0 (omega arith) (omega arith))

  -- writing bit 2 of octet 2 changes AA alone
  pub aa_changed : ChangesBit (slice_index b 2) x 2 set → fields_in (slice_set b 2 x) ≡ record (fields_in b) { aa = set }
  aa_changed changes =
      let o : (k : ℕ) → k < 8 → k ≢ 2 → bit x k ≡ bit (slice_index b 2) k = kept _ 2 changes in
      octet_2 b x _ set _ _ _ all (o 7 (omega arith) (omega arith)) (opcode_stays 2 changes (inr (omega arith))) changes.changed (o 1 (omega arith) (omega arith)) (o 0 (omega arith) (omega arith))

  -- writing bit 1 of octet 2 changes TC alone
  pub tc_changed : ChangesBit (slice_index b 2) x 1 set → fields_in (slice_set b 2 x) ≡ record (fields_in b) { tc = set }
  tc_changed changes =
      let o : (k : ℕ) → k < 8 → k ≢ 1 → bit x k ≡ bit (slice_index b 2) k = kept _ 1 changes in
      octet_2 b x _ _ set _ _ all (o 7 (omega arith) (omega arith)) (opcode_stays 1 changes (inr (omega arith))) (o 2 (omega arith) (omega arith)) changes.changed (o 0 (omega arith) (omega arith))

  -- writing bit 0 of octet 2 changes RD alone
  pub rd_changed : ChangesBit (slice_index b 2) x 0 set → fields_in (slice_set b 2 x) ≡ record (fields_in b) { rd = set }
  rd_changed changes =
      let o : (k : ℕ) → k < 8 → k ≢ 0 → bit x k ≡ bit (slice_index b 2) k = kept _ 0 changes in
      octet_2 b x _ _ _ set _ all (o 7 (omega arith) (omega arith)) (opcode_stays 0 changes (inr (omega arith))) (o 2 (omega arith) (omega arith)) (o 1 (omega arith) (omega arith)) changes.changed

  -- writing bit 7 of octet 3 changes RA alone
  pub ra_changed : ChangesBit (slice_index b 3) x 7 set → fields_in (slice_set b 3 x) ≡ record (fields_in b) { ra = set }
  ra_changed changes =
      let o : (k : ℕ) → k < 8 → k ≢ 7 → bit x k ≡ bit (slice_index b 3) k = kept _ 7 changes in
      octet_3 b x set _ _ _ _ all changes.changed (o 6 (omega arith) (omega arith)) (o 5 (omega arith) (omega arith)) (o 4 (omega arith) (omega arith)) (rcode_stays 7 changes (omega arith))

  -- writing bit 6 of octet 3 changes Z alone
  pub z_changed : ChangesBit (slice_index b 3) x 6 set → fields_in (slice_set b 3 x) ≡ record (fields_in b) { z = set }
  z_changed changes =
      let o : (k : ℕ) → k < 8 → k ≢ 6 → bit x k ≡ bit (slice_index b 3) k = kept _ 6 changes in
      octet_3 b x _ set _ _ _ all (o 7 (omega arith) (omega arith)) changes.changed (o 5 (omega arith) (omega arith)) (o 4 (omega arith) (omega arith)) (rcode_stays 6 changes (omega arith))

  -- writing bit 5 of octet 3 changes AD alone
  pub ad_changed : ChangesBit (slice_index b 3) x 5 set → fields_in (slice_set b 3 x) ≡ record (fields_in b) { ad = set }
  ad_changed changes =
      let o : (k : ℕ) → k < 8 → k ≢ 5 → bit x k ≡ bit (slice_index b 3) k = kept _ 5 changes in
      octet_3 b x _ _ set _ _ all (o 7 (omega arith) (omega arith)) (o 6 (omega arith) (omega arith)) changes.changed (o 4 (omega arith) (omega arith)) (rcode_stays 5 changes (omega arith))

  -- writing bit 4 of octet 3 changes CD alone
  pub cd_changed : ChangesBit (slice_index b 3) x 4 set → fields_in (slice_set b 3 x) ≡ record (fields_in b) { cd = set }
  cd_changed changes =
      let o : (k : ℕ) → k < 8 → k ≢ 4 → bit x k ≡ bit (slice_index b 3) k = kept _ 4 changes in
      octet_3 b x _ _ _ set _ all (o 7 (omega arith) (omega arith)) (o 6 (omega arith) (omega arith)) (o 5 (omega arith) (omega arith)) changes.changed (rcode_stays 4 changes (omega arith))

-- bit k of an octet whose bits under a mask are kept and whose others are those of `y`
mixed_bit : (n mask y k : ℕ) → bits (bit_or (bit_and n mask) y) k 1 ≡ max (min (bits n k 1) (bits mask k 1)) (bits y k 1)
mixed_bit n mask y k = bit_at_or (bit_and n mask) y k ∙ ap (λ (t : ℕ). max t (bits y k 1)) (bit_at_and n mask k)

-- octet 2 with another opcode
abbrev with_opcode : ℕ → ℕ → ℕ
with_opcode n opcode = bit_or (bit_and n 135) (bit_and opcode 15 * 8 % 256)

-- the bits of octet 2 with another opcode
with_opcode_bit : (n opcode k : ℕ) → bits (with_opcode n opcode) k 1 ≡ max (min (bits n k 1) (bits 135 k 1)) (bits (opcode % 16 * 8) k 1)
with_opcode_bit n opcode k =
    let low : bit_and opcode 15 * 8 % 256 ≡ opcode % 16 * 8 = omega (arith, and_mask opcode 4) in
    mixed_bit n 135 _ k ∙ ap (λ (y : ℕ). max (min (bits n k 1) (bits 135 k 1)) (bits y k 1)) low

-- replacing octet 2 so changes the opcode alone
pub opcode_changed : (b : List ℕ) (opcode : ℕ) → length b ≡ 4 → fields_in (slice_set b 2 (with_opcode (slice_index b 2) opcode)) ≡ record (fields_in b) { opcode = opcode % 16 }
opcode_changed b opcode all =
    let n : ℕ = slice_index b 2 in
    let x : ℕ = with_opcode n opcode in
    octet_2 b x _ _ _ _ _ all
    (same_bit n x 7 (omega (arith, with_opcode_bit n opcode 7, bit_at-lt n 7)))
    (omega (arith, with_opcode_bit n opcode 3, with_opcode_bit n opcode 4, with_opcode_bit n opcode 5, with_opcode_bit n opcode 6))
    (same_bit n x 2 (omega (arith, with_opcode_bit n opcode 2, bit_at-lt n 2)))
    (same_bit n x 1 (omega (arith, with_opcode_bit n opcode 1, bit_at-lt n 1)))
    (same_bit n x 0 (omega (arith, with_opcode_bit n opcode 0, bit_at-lt n 0)))

-- octet 3 with another rcode
abbrev with_rcode : ℕ → ℕ → ℕ
with_rcode n rcode = bit_or (bit_and n 240) rcode

-- replacing octet 3 so changes the rcode alone
pub rcode_changed : (b : List ℕ) (rcode : ℕ) → length b ≡ 4 → rcode < 16 → fields_in (slice_set b 3 (with_rcode (slice_index b 3) rcode)) ≡ record (fields_in b) { rcode = rcode }
rcode_changed b rcode all low =
    let n : ℕ = slice_index b 3 in
    let x : ℕ = with_rcode n rcode in
    octet_3 b x _ _ _ _ _ all
    (same_bit n x 7 (omega (arith, mixed_bit n 240 rcode 7, bit_at-lt n 7)))
    (same_bit n x 6 (omega (arith, mixed_bit n 240 rcode 6, bit_at-lt n 6)))
    (same_bit n x 5 (omega (arith, mixed_bit n 240 rcode 5, bit_at-lt n 5)))
    (same_bit n x 4 (omega (arith, mixed_bit n 240 rcode 4, bit_at-lt n 4)))
    (omega (arith, mixed_bit n 240 rcode 0, mixed_bit n 240 rcode 1, mixed_bit n 240 rcode 2, mixed_bit n 240 rcode 3))
