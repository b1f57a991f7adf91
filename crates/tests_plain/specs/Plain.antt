-- What plain values say of octets. RFC 1035 section 4.1.
use Rattle.std.specs.Prelude.{◌≡◌, ℕ, ◌+◌, ◌≤◌, List, ◌++◌, length, Result, Ok, Err, MatchResult}
use Rattle.dns_octets.specs.declared.error.ParseError.{ParseError}
use Rattle.dns_name.specs.Names.{Labels, name_size, max_size, uncompressed, Fault, fault_of, NameAt, NameContinues}

-- The result is a value with `Is`, or it is an error that reports a fault with `Faults`.
abbrev pub Gives : {T : Type 0} → Result T ParseError → (T → Type 0) → (Fault → Type 0) → Type 0
Gives result Is Faults = MatchResult result Is (λ error. Faults (fault_of error))

-- The octets are the uncompressed name that is encoded at offset p.
pub record NameIs (b : List ℕ) (p : ℕ) (octets : List ℕ) : Type 0 where
  pub name : Labels
  pub there : NameAt b p name
  pub whole : octets ≡ uncompressed name

-- The octets are labels, and then the uncompressed name that is encoded at offset p. All labels together are short enough for a name.
pub record NameAfter (b : List ℕ) (p : ℕ) (labels octets : List ℕ) : Type 0 where
  pub name : Labels
  pub there : NameAt b p name
  pub short : length labels + name_size name ≤ max_size
  pub whole : octets ≡ labels ++ uncompressed name

-- In a name whose labels so far take s octets, the rest of its encoding takes the octets p..end, which are all there.
abbrev pub EndsWithin : List ℕ → ℕ → ℕ → ℕ → Type 0
EndsWithin b p s end = NameContinues b p s end × (end ≤ length b)

-- An item of a reading: an entry, or the fault that an error reports.
abbrev pub faulted : {X : Type 0} → Result X ParseError → Result X Fault
faulted (Ok entry) = Ok entry
faulted (Err error) = Err (fault_of error)
