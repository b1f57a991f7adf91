-- Parts of octets: bits, and numbers of two octets.
use Rattle.std.specs.Prelude.{◌≡◌, ◌≢◌, ◌==◌, if◌then◌else◌, ℕ, Bool, ◌+◌, ◌*◌, ◌/◌, ◌%◌, ◌^◌, ◌<◌, List, slice_index}

-- the number in the `count` bits of an octet from bit `lowest` up; bit 7 is the most significant
abbrev pub bits : ℕ → ℕ → ℕ → ℕ
bits octet lowest count = octet / 2 ^ lowest % 2 ^ count

-- whether the bit at the index is 1
abbrev pub bit : ℕ → ℕ → Bool
bit octet offset = bits octet offset 1 == 1

-- the number whose bit at the index is 1 if `set`, and whose other bits are 0
abbrev pub one_bit : ℕ → Bool → ℕ
one_bit offset set = if set then 2 ^ offset else 0

-- the 16-bit number at offset `offset`, big-endian
abbrev pub number_in : List ℕ → ℕ → ℕ
number_in b offset = slice_index b offset * 256 + slice_index b (offset + 1)

-- bit `offset` of the octet becomes `set`, and all other bits stay
pub record ChangesBit (old new offset : ℕ) (set : Bool) : Type 0 where
  pub changed : bit new offset ≡ set
  pub others : (k : ℕ) → k < 8 → k ≢ offset → bits new k 1 ≡ bits old k 1

-- the number at offset `offset` becomes `number`, and all other octets stay
pub record ChangesNumber (old new : List ℕ) (offset number : ℕ) : Type 0 where
  pub changed : number_in new offset ≡ number
  pub others : (k : ℕ) → k ≢ offset → k ≢ offset + 1 → slice_index new k ≡ slice_index old k
