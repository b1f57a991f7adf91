-- Segments of IPv6 addresses, digit by digit.
use Rattle.std.proofs.Common.{◌≡◌, ℕ, ◌/◌, ◌%◌, ◌<◌, ◌≤◌, ◌^◌, [], ◌∷◌, ◌++◌, arith, inl, inr, le-leb, refl}
use Rattle.std.proofs.lemmas.Bool.{cases_lt, lt-leb}
use Rattle.std.specs.Char.{digit_char}
use Rattle.std.specs.Net.Text.{hex}

-- a segment of one digit
pub hex_last : (n : ℕ) → n < 16 → hex n ≡ digit_char n ∷ []
unfolding hex
hex_last n small =
    let same : n % 16 ≡ n = omega arith in
    rw (lt-leb 0x1000 n (omega arith), lt-leb 0x100 n (omega arith), lt-leb 0x10 n small, same) refl

-- the last digit of a segment, after the others
pub hex_more : (n : ℕ) → 16 ≤ n → n < 2 ^ 16 → hex n ≡ hex (n / 16) ++ digit_char (n % 16) ∷ []
unfolding hex
hex_more n some fits =
    let a : n / 16 / 0x10 % 16 ≡ n / 0x100 % 16 = omega arith in
    let b : n / 16 / 0x100 % 16 ≡ n / 0x1000 = omega arith in
    let c : n / 16 % 16 ≡ n / 0x10 % 16 = omega arith in
    elim (cases_lt n 0x1000) [
      | inr four ↦ rw (le-leb 0x1000 n four, lt-leb 0x1000 (n / 16) (omega arith), le-leb 0x100 (n / 16) (omega arith), a, b, c) refl
      | inl h₃ ↦ elim (cases_lt n 0x100) [
        | inr three ↦ rw (lt-leb 0x1000 n h₃, le-leb 0x100 n three, lt-leb 0x1000 (n / 16) (omega arith), lt-leb 0x100 (n / 16) (omega arith), le-leb 0x10 (n / 16) (omega arith), a, c) refl
        | inl h₂ ↦ rw (lt-leb 0x1000 n h₃, lt-leb 0x100 n h₂, le-leb 0x10 n some, lt-leb 0x1000 (n / 16) (omega arith), lt-leb 0x100 (n / 16) (omega arith), lt-leb 0x10 (n / 16) (omega arith), c) refl
      ]
    ]
