-- Serial numbers as tests. RFC 1982 section 3.2.
use Rattle.std.specs.Prelude.{ℕ, Bool, ◌-◌, ◌^◌, ◌&&◌, ◌||◌, nat_lt}

-- whether the first serial is greater than the second: this is `IsGreater` of dns_iana
abbrev pub is_greater : ℕ → ℕ → Bool
is_greater s t = (nat_lt s t && nat_lt (2 ^ 31) (t - s)) || (nat_lt t s && nat_lt (s - t) (2 ^ 31))
