-- What sums and comparisons of serials have in common with those of numbers. RFC 1982 section 3.
use Rattle.std.specs.Prelude.{◌≡◌, ℕ, ◌+◌, ◌^◌, ◌<◌, ◌≤◌, ◌⊎◌, ◌↔◌}
use Rattle.dns_iana.specs.Serials.{serial_sum, IsLess, IsGreater}
use Rattle.dns_iana.specs.declared.serial.TheConstants.Serial.{MAX_ADDEND}

-- a sum with 1 to 2^31 - 1 is greater than the serial
abbrev pub SumsAreGreater : Type 0
SumsAreGreater = (s n : ℕ) → s < 2 ^ 32 → 1 ≤ n → n < 2 ^ 31 → IsGreater (serial_sum s n) s

-- a sum with the number after `MAX_ADDEND` is not greater than the serial
abbrev pub NoGreaterAddend : Type 0
NoGreaterAddend = (s : ℕ) → s < 2 ^ 32 → ¬ IsGreater (serial_sum s (MAX_ADDEND + 1)) s

-- a serial is greater than another if the other is less than it
abbrev pub GreaterIsLessExchanged : Type 0
GreaterIsLessExchanged = (s t : ℕ) → IsGreater s t ↔ IsLess t s

-- no serial is less than itself, or both less and greater than another
abbrev pub OneIsLess : Type 0
OneIsLess = (s t : ℕ) → IsLess s t → ¬ IsLess t s

-- two serials are 2^31 apart exactly if they differ, and neither is less
abbrev pub HalvesAreApart : Type 0
HalvesAreApart = (s t : ℕ) → ((s + 2 ^ 31 ≡ t) ⊎ (t + 2 ^ 31 ≡ s)) ↔ (¬ (s ≡ t) × ¬ IsLess s t × ¬ IsLess t s)

-- some serial is less than a second, this less than a third, and the first not less than the third
abbrev pub LessIsntTransitive : Type 0
LessIsntTransitive = (s t u : ℕ) × IsLess s t × IsLess t u × ¬ IsLess s u
