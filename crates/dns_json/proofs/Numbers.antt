-- Numbers that a message has, and their texts as numbers of JSON.
use Rattle.std.proofs.Common.{◌≡◌, ℕ, zero, suc, negsuc, ◌+◌, ◌-◌, ◌<◌, ◌≤◌, ◌^◌, List, ◌++◌, All, arith, codes, decimal, drop, get_or, inl, inr, length, lit<, subst, sym, take}
use Rattle.std.proofs.lemmas.Bool.{cases_lt, le-ltb, lt-ltb}
use Rattle.std.proofs.lemmas.List.{get_or_past}
use Rattle.std.proofs.lemmas.List.Elements.{All-drop, All-take}
use Rattle.std.specs.Int.{w16, w32}
use Rattle.json.specs.Print.{IsNumber}
use Rattle.json.proofs.Printed.Decimals.{IsNumber-decimal, IsNumber-signed_decimal}
use Rattle.dns_name.specs.Parsers.{number_at}
use Rattle.dns_json.specs.Records.{ttl_text}

negative : (n : ℕ) → 0 < n → n < 2 ^ 63 → IsNumber (codes "-" ++ decimal n)
negative zero some small = absurd (omega arith)
negative (suc n) some small = IsNumber-signed_decimal (negsuc n) (omega arith)

-- A TTL is a number of JSON.
pub ttl_number : (ttl : ℕ) → ttl < 2 ^ 32 → IsNumber (ttl_text ttl)
ttl_number ttl small = elim (cases_lt ttl (2 ^ 31)) [
  | inl positive ↦ rw (lt-ltb ttl (2 ^ 31) positive) (IsNumber-decimal ttl (omega arith))
  | inr high ↦ rw (le-ltb ttl (2 ^ 31) high) (negative (2 ^ 32 - ttl) (omega arith) (omega arith))
]

-- A TTL below the sign bit prints as it is.
pub ttl_positive : (ttl : ℕ) → ttl < 2 ^ 31 → decimal ttl ≡ ttl_text ttl
ttl_positive ttl low = rw (lt-ltb ttl (2 ^ 31) low)

-- A TTL with the sign bit prints as what lacks to all 32 bits, after a minus sign.
pub ttl_negative : (ttl : ℕ) → 2 ^ 31 ≤ ttl → codes "-" ++ decimal (2 ^ 32 - ttl) ≡ ttl_text ttl
ttl_negative ttl high = rw (le-ltb ttl (2 ^ 31) high)

octets_fit : (xs : List ℕ) → All (λ octet. octet < 256) xs → (k : ℕ) → get_or xs k 0 < 256
octets_fit xs all k = elim (cases_lt k (length xs)) [
  | inl inside ↦ all k 0 inside
  | inr past ↦ subst (λ (n : ℕ). n < 256) (sym (get_or_past xs k 0 past)) (lit< tt)
]

-- A number of two octets.
pub number_16 : (b : List ℕ) (p : ℕ) → All (λ octet. octet < 256) b → number_at w16 b p < 2 ^ 16
number_16 b p below =
    let xs = take (p + 2 - p) (drop p b) in
    let fit = octets_fit xs (All-take (λ (octet : ℕ). octet < 256) (p + 2 - p) (drop p b) (All-drop (λ (octet : ℕ). octet < 256) p b below)) in
    let first = fit 0 in
    let second = fit 1 in
    omega (arith, first, second)

-- A number of four octets.
pub number_32 : (b : List ℕ) (p : ℕ) → All (λ octet. octet < 256) b → number_at w32 b p < 2 ^ 32
number_32 b p below =
    let xs = take (p + 4 - p) (drop p b) in
    let fit = octets_fit xs (All-take (λ (octet : ℕ). octet < 256) (p + 4 - p) (drop p b) (All-drop (λ (octet : ℕ). octet < 256) p b below)) in
    let first = fit 0 in
    let second = fit 1 in
    let third = fit 2 in
    let fourth = fit 3 in
    omega (arith, first, second, third, fourth)
