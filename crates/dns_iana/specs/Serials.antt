-- Serial number arithmetic at 32 bits. RFC 1982.
use Rattle.std.specs.Prelude.{ℕ, ◌+◌, ◌-◌, ◌%◌, ◌^◌, ◌<◌, ◌⊎◌}

-- the sum of a serial and a number. RFC 1982 section 3.1.
abbrev pub serial_sum : ℕ → ℕ → ℕ
serial_sum serial addend = (serial + addend) % 2 ^ 32

-- the first serial is less than the second. RFC 1982 section 3.2.
abbrev pub IsLess : ℕ → ℕ → Type 0
IsLess s t = ((s < t) × (t - s < 2 ^ 31)) ⊎ ((t < s) × (2 ^ 31 < s - t))

-- the first serial is greater than the second. RFC 1982 section 3.2.
abbrev pub IsGreater : ℕ → ℕ → Type 0
IsGreater s t = ((s < t) × (2 ^ 31 < t - s)) ⊎ ((t < s) × (s - t < 2 ^ 31))
