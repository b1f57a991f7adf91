-- Big-endian numbers and their octets.
use Rattle.std.proofs.Common.{◌≡◌, ◌∙◌, ℕ, suc, ◌+◌, ◌*◌, ◌/◌, ◌%◌, ◌<◌, ◌≤◌, ◌^◌, List, [], ◌∷◌, ◌++◌, length, sym, ap, subst, arith, append-nil, append_assoc}
use Rattle.std.proofs.Math.Nat.{mul-le-mul_right, pow-suc}
use Rattle.hex.specs.Hex.{IsBytes}
use Rattle.fields_table.specs.Values.{number_after}
use Rattle.fields_text.specs.Base32Words.{last_octets}

-- the last octets of a number of octets, after those of the number before them
octets_after : (count high : ℕ) (octets : List ℕ) → IsBytes octets → last_octets (count + length octets) (number_after high octets) ≡ last_octets count high ++ octets
unfolding last_octets
octets_after count high [] bytes =
    let same : count + 0 ≡ count = omega arith in
    ap (λ k. last_octets k high) same ∙ sym (append-nil (last_octets count high))
octets_after count high (o ∷ octets) bytes =
    let small : o < 256 = bytes 0 in
    let size : count + length (o ∷ octets) ≡ suc count + length octets = omega arith in
    let front : (high * 256 + o) / 256 ≡ high = omega arith in
    let back : (high * 256 + o) % 256 ≡ o = omega arith in
    ap (λ k. last_octets k (number_after (high * 256 + o) octets)) size
    ∙ octets_after (suc count) (high * 256 + o) octets (λ i. bytes (suc i))
    ∙ (λ i. (last_octets count (front i) ++ back i ∷ []) ++ octets)
    ∙ append_assoc (last_octets count high) (o ∷ []) octets

-- the octets of a number are its last octets
pub number_octets : (size : ℕ) (octets : List ℕ) → length octets ≡ size → IsBytes octets → octets ≡ last_octets size (number_after 0 octets)
unfolding last_octets
number_octets size octets sized bytes =
    let same : 0 + length octets ≡ size = omega arith in
    sym (octets_after 0 0 octets bytes) ∙ ap (λ k. last_octets k (number_after 0 octets)) same

-- a bound of one octet more
more_below : (below high o power : ℕ) → o < 256 → below < (high * 256 + o + 1) * power → below < (high + 1) * (power * 256)
more_below below high o power small h =
    let most : (high * 256 + o + 1) * power ≤ (high + 1) * 256 * power = mul-le-mul_right power (omega arith) in
    let same : (high + 1) * 256 * power ≡ (high + 1) * (power * 256) = omega arith in
    omega (arith, h, most, same)

number_below : (high : ℕ) (octets : List ℕ) → IsBytes octets → number_after high octets < (high + 1) * 256 ^ length octets
number_below high [] bytes = omega arith
number_below high (o ∷ octets) bytes =
    subst (λ power. number_after (high * 256 + o) octets < (high + 1) * power) (sym (pow-suc 256 (length octets)))
    (more_below (number_after (high * 256 + o) octets) high o (256 ^ length octets) (bytes 0) (number_below (high * 256 + o) octets (λ i. bytes (suc i))))

-- a number of this many octets
pub number_small : (size : ℕ) (octets : List ℕ) → length octets ≡ size → IsBytes octets → number_after 0 octets < 256 ^ size
number_small size octets sized bytes = let below = number_below 0 octets bytes in omega (arith, below, ap (λ k. 256 ^ k) sized)
