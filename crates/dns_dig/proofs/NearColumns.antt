-- A column decides what precedes the next text only as far as `near` keeps it.
use Rattle.std.proofs.Common.{◌≡◌, ◌∙◌, ℕ, ◌+◌, ◌%◌, ◌<◌, ◌≤◌, ◌==◌, inl, inr, ap, sym, refl, arith, codes}
use Rattle.std.proofs.lemmas.Bool.{cases_lt, lt-ltb, le-ltb}
use Rattle.std.specs.Prelude.{if◌then◌else◌}
use Rattle.dns_dig.specs.Columns.{begins_at, gap}
use Rattle.dns_dig.specs.Near.{near}

near_below : (n : ℕ) → n < 64 → near n ≡ n
near_below n small = rw (lt-ltb n 64 small) refl

near_from : (n : ℕ) → 64 ≤ n → near n ≡ 56 + n % 8
near_from n large = rw (le-ltb n 64 large) refl

near_same : (m n : ℕ) → 56 ≤ m → 64 ≤ n → m % 8 ≡ n % 8 → near m ≡ near n
near_same m n h large e = elim (cases_lt m 64) [
  | inl small ↦ let s : m ≡ 56 + n % 8 = omega arith in near_below m small ∙ (s ∙ sym (near_from n large))
  | inr from ↦ near_from m from ∙ (ap (λ r. 56 + r) e ∙ sym (near_from n large))
]

-- Keeping a kept column changes nothing.
pub near_near : (n : ℕ) → near (near n) ≡ near n
near_near n = elim (cases_lt n 64) [
  | inl small ↦ ap near (near_below n small)
  | inr large ↦ let e = near_from n large in near_same (near n) n (omega (arith, e)) large (omega (arith, e))
]

-- A kept column and a kept length make the kept column of their sum.
pub near_sum : (a b : ℕ) → near (near a + near b) ≡ near (a + b)
near_sum a b = elim (cases_lt a 64) [
  | inl small ↦ elim (cases_lt b 64) [
    | inl low ↦ λ i. near (near_below a small i + near_below b low i)
    | inr high ↦ let d = near_below a small in let e = near_from b high in near_same (near a + near b) (a + b) (omega (arith, d, e)) (omega arith) (omega (arith, d, e))
  ]
  | inr large ↦ elim (cases_lt b 64) [
    | inl low ↦ let d = near_from a large in let e = near_below b low in near_same (near a + near b) (a + b) (omega (arith, d, e)) (omega arith) (omega (arith, d, e))
    | inr high ↦ let d = near_from a large in let e = near_from b high in near_same (near a + near b) (a + b) (omega (arith, d, e)) (omega arith) (omega (arith, d, e))
  ]
]

-- The same of columns that are kept as the same.
pub near_sums : (a c b d : ℕ) → near a ≡ near c → near b ≡ near d → near (a + b) ≡ near (c + d)
near_sums a c b d e f = sym (near_sum a b) ∙ ((λ i. near (e i + f i)) ∙ near_sum c d)

-- The next text begins where it begins after the kept column.
pub near_begins : (n column : ℕ) → column ≤ 56 → near (begins_at (near n) column) ≡ near (begins_at n column)
near_begins n column within = elim (cases_lt n 64) [
  | inl small ↦ ap (λ m. near (begins_at m column)) (near_below n small)
  | inr large ↦
      let e = near_from n large in
      let kept : column ≤ near n = omega (arith, e) in
      let whole : column ≤ n = omega arith in
      rw (le-ltb (near n) column kept, le-ltb n column whole) (near_same (near n + 1) (n + 1) (omega (arith, e)) (omega arith) (omega (arith, e)))
]

-- What precedes it is the same.
pub near_gap : (n column : ℕ) → column ≤ 56 → gap (near n) column ≡ gap n column
near_gap n column within = elim (cases_lt n 64) [
  | inl small ↦ ap (λ m. gap m column) (near_below n small)
  | inr large ↦
      let e = near_from n large in
      let kept : column ≤ near n = omega (arith, e) in
      let whole : column ≤ n = omega arith in
      let phase : near n % 8 ≡ n % 8 = omega (arith, e) in
      rw (le-ltb (near n) column kept, le-ltb n column whole) (ap (λ r. if r == 7 then codes "\t" else codes " ") phase)
]

-- Where a text ends, by what is kept.
pub near_end : (from n column len : ℕ) → column ≤ 56 → from ≡ near n → near (begins_at from column + near len) ≡ near (begins_at n column + len)
near_end from n column len within is =
    ap (λ m. near (begins_at m column + near len)) is ∙ near_sums (begins_at (near n) column) (begins_at n column) (near len) len (near_begins n column within) (near_near len)
