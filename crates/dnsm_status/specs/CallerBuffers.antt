-- What a call leaves in the buffer of its caller.
use Rattle.std.specs.Prelude.{◌≡◌, ◌≢◌, ◌<◌, ◌≤◌, ◌-◌, ◌^◌, ℕ, List, length, min, take}
use Rattle.dnsm_status.specs.Codes.{number_of}
use Rattle.dnsm_status.specs.declared.code.CallError.TheVariants as faults

-- A call that got the buffer `old` leaves `new` there, sets the length to `len` and returns `status`: the buffer has as many octets as before; on success those
-- that are written are within it; and an error other than a too short buffer sets the length to 0.
pub record WritesOctets (old new : List ℕ) (len status : ℕ) : Type 0 where
  pub same_length : length new ≡ length old
  pub within : status ≡ 0 → len ≤ length new
  pub empty : status ≢ 0 → status ≢ number_of faults.NoRoom → len ≡ 0

-- the same for text, and the zero octet after it is within the buffer too
pub record WritesText (old new : List ℕ) (len status : ℕ) : Type 0 where
  pub octets : WritesOctets old new len status
  pub within : status ≡ 0 → len < length new

-- `end` is the length of the text, at most 2^64 - 1, and the buffer begins with the text if it is long enough
pub record Holds (out text : List ℕ) (end : ℕ) : Type 0 where
  pub counted : end ≡ min (length text) (2 ^ 64 - 1)
  pub held : length text ≤ length out → take (length text) out ≡ text

-- some octets with this property are n, more than `capacity`
abbrev pub IsLonger : (List ℕ → Type 0) → ℕ → ℕ → Type 0
IsLonger P capacity n = (octets : List ℕ) × P octets × (capacity < length octets) × (n ≡ length octets)
