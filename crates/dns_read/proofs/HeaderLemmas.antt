-- A header, and a count, that overwrite octets of a message.
use Rattle.std.proofs.Common.{◌≡◌, ◌∙◌, ◌+◌, ◌<◌, ◌≤◌, ◌^◌, ℕ, List, ◌++◌, length, take, drop, ap, arith}
use Rattle.std.specs.Int.{from_be_bytes, to_be_bytes, w16}
use Rattle.std.proofs.lemmas.Nat.{from_be_bytes-to_be_bytes_2}
use Rattle.dns_name.specs.Parsers.{number_at}
use Rattle.std.proofs.lemmas.Grind.{common_steps}
use Rattle.dns_octets.specs.Octets.{overwritten}
use Rattle.dns_octets.proofs.theory.Overwritten.{written_there}

-- the first of two appended lists
front : (n : ℕ) (b c : List ℕ) → length b ≡ n → take n (b ++ c) ≡ b
front n b c h = grind (arith, common_steps)

-- the second of two appended lists
after_front : (n : ℕ) (b c : List ℕ) → length b ≡ n → drop n (b ++ c) ≡ c
after_front n b c h = grind (arith, common_steps)

-- the first octets are those written
pub overwritten_front : (b h : List ℕ) → length h ≡ 4 → take 4 (overwritten b 0 h) ≡ h
overwritten_front b h n = front 4 h (drop (0 + length h) b) n

-- the octets after them stay
pub overwritten_after : (b h : List ℕ) → length h ≡ 4 → drop 4 (overwritten b 0 h) ≡ drop 4 b
overwritten_after b h n =
    let e : 0 + length h ≡ 4 = omega arith in
    after_front 4 h (drop (0 + length h) b) n ∙ ap (λ k. drop k b) e

-- a 16-bit number that was written is read
pub written_number : (b xs : List ℕ) (p n : ℕ) → p + 2 ≤ length b → length xs ≡ 2 → n < 2 ^ 16 → xs ≡ to_be_bytes w16 n → number_at w16 (overwritten b p xs) p ≡ n
written_number b xs p n l two small e =
    ap (from_be_bytes w16) (written_there b xs p (p + 2) (omega (arith, two)) l ∙ e) ∙ from_be_bytes-to_be_bytes_2 n small
