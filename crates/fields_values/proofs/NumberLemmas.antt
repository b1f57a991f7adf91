-- Numbers of a number of octets.
use Rattle.std.proofs.Common.{◌≡◌, ◌≢◌, ◌∙◌, ℕ, ap, refl, zero, suc, ◌+◌, ◌-◌, ◌*◌, ◌/◌, ◌%◌, ◌<◌, ◌^◌, ◌++◌, List, [], ◌∷◌, length, sym, arith}
use Rattle.std.proofs.Math.Nat.{pow-suc}
use Rattle.std.proofs.lemmas.List.{length-append}
use Rattle.fields_table.specs.Values.{number_after}
use Rattle.fields_text.specs.Base32Words.{last_octets}

-- a number of one octet more
pub fits_more : (n size : ℕ) → size ≢ 0 → n / 256 < 256 ^ (size - 1) → n < 256 ^ size
fits_more n zero some h = absurd (some refl)
fits_more n (suc size) some h =
    let power = pow-suc 256 size in
    let less : suc size - 1 ≡ size = omega arith in
    let same : 256 ^ (suc size - 1) ≡ 256 ^ size = ap (λ k. 256 ^ k) less in
    omega (arith, h, power, same)

-- A number without its last octet fits one octet less.
pub fits_less : (n size : ℕ) → size ≢ 0 → n < 256 ^ size → n / 256 < 256 ^ (size - 1)
fits_less n zero some h = absurd (some refl)
fits_less n (suc size) some h =
    let power = pow-suc 256 size in
    let less : suc size - 1 ≡ size = omega arith in
    let same : 256 ^ (suc size - 1) ≡ 256 ^ size = ap (λ k. 256 ^ k) less in
    omega (arith, h, power, same)

-- The last octets of a number are as many as asked for.
pub length-last_octets : (size n : ℕ) → length (last_octets size n) ≡ size
unfolding last_octets
length-last_octets zero n = refl
length-last_octets (suc size) n =
    length-append (last_octets size (n / 256)) ((n % 256) ∷ []) ∙ ap (λ k. k + 1) (length-last_octets size (n / 256)) ∙ omega arith

-- the number of its octets
number_append : (high : ℕ) (octets : List ℕ) (o : ℕ) → number_after high (octets ++ o ∷ []) ≡ number_after high octets * 256 + o
number_append high [] o = refl
number_append high (x ∷ octets) o = number_append (high * 256 + x) octets o

-- A number that fits is the number of its last octets.
pub number_back : (size n : ℕ) → n < 256 ^ size → number_after 0 (last_octets size n) ≡ n
unfolding last_octets
number_back zero n small = let one : n ≡ 0 = omega arith in sym one
number_back (suc size) n small =
    let power = pow-suc 256 size in
    let fewer : n / 256 < 256 ^ size = omega (arith, small, power) in
    number_append 0 (last_octets size (n / 256)) (n % 256) ∙ ap (λ h. h * 256 + n % 256) (number_back size (n / 256) fewer) ∙ omega arith
