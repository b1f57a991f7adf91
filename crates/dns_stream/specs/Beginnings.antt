-- What the octets of a stream begin with.
use Rattle.std.specs.Prelude.{ℕ, ◌+◌, ◌≤◌, List, length, drop, slice_range}
use Rattle.dns_code.specs.HeaderSection.{header_size}
use Rattle.dns_stream.specs.declared.frames.Beginning.{Beginning}
use Rattle.dns_stream.specs.declared.frames.Beginning.TheVariants.{Frame, Partial, Refused}
use Rattle.dns_stream.specs.Frames.{Accepts, BeginsWith, IsPartial, Refuses}

-- The first frame is there and accepted, and its message has this length.
pub record IsWhole (most : ℕ) (octets : List ℕ) (len : ℕ) : Type 0 where
  pub accepted : Accepts most octets
  pub not_short : header_size ≤ len
  pub there : 2 + len ≤ length octets
  pub begins : BeginsWith octets (slice_range octets 2 (2 + len)) (drop (2 + len) octets)

-- What octets begin with, for a reader of frames of at most `most` octets.
abbrev pub IsBeginning : ℕ → List ℕ → Beginning → Type 0
IsBeginning most octets (Frame len) = IsWhole most octets len
IsBeginning most octets Partial = IsPartial octets × Accepts most octets
IsBeginning most octets (Refused error) = Refuses most octets error
