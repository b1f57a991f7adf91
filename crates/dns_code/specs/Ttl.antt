-- Seconds as a TTL: whole numbers of 32 bits.
use Rattle.std.specs.Prelude.{ℕ, ◌-◌, ◌*◌, ◌/◌, ◌^◌, ◌<◌}
use Rattle.std.specs.Duration.{as_nanos}
use Rattle.std.specs.declared.time.Duration.{Duration}

-- this number of seconds is a TTL (RFC 8767 section 4: 32 bits, unsigned)
abbrev pub FitsTtl : ℕ → Type 0
FitsTtl seconds = seconds < 2 ^ 32

-- the greatest TTL in seconds
abbrev pub most_seconds : ℕ
most_seconds = 2 ^ 32 - 1

-- the longest that a record should be cached, in seconds: seven days (RFC 8767 section 4)
abbrev pub cap_seconds : ℕ
cap_seconds = 604_800

-- the whole seconds of a duration
abbrev pub whole_seconds : Duration → ℕ
whole_seconds duration = as_nanos duration / 1_000_000_000

-- the nanoseconds of a number of seconds
abbrev pub nanos_of_seconds : ℕ → ℕ
nanos_of_seconds seconds = seconds * 1_000_000_000
