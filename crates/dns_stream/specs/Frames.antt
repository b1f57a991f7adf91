-- Messages on a stream: a frame is the length of a message in two octets, which it doesn't count, and the message. RFC 1035 section 4.2.2.
use Rattle.std.specs.Prelude.{◌≡◌, ℕ, ◌+◌, ◌-◌, ◌<◌, ◌≤◌, ◌⊎◌, List, ◌++◌, length, All}
use Rattle.std.specs.Int.{w16}
use Rattle.std.specs.List.{flat_map}
use Rattle.dns_name.specs.Parsers.{number_at}
use Rattle.dns_code.specs.HeaderSection.{header_size}
use Rattle.dns_wire.specs.Stream.{most_octets, with_prefix}
use Rattle.dns_stream.specs.declared.error.FrameError.{FrameError}
use Rattle.dns_stream.specs.declared.error.FrameError.TheVariants.{Short, Long}

-- Octets begin with the frame of a message, and the octets `after` follow it.
abbrev pub BeginsWith : List ℕ → List ℕ → List ℕ → Type 0
BeginsWith octets message after = (length message ≤ most_octets) × (octets ≡ with_prefix message ++ after)

-- The length of the first message: the number in the first two octets.
abbrev pub first_length : List ℕ → ℕ
first_length octets = number_at w16 octets 0

-- Octets are less than a frame: fewer than two, or fewer than two and the length.
abbrev pub IsPartial : List ℕ → Type 0
IsPartial octets = 2 ≤ length octets → length octets < 2 + first_length octets

-- Octets begin with the frames of these messages, in order, and the octets `after` follow them.
abbrev pub BeginsWithAll : List ℕ → List (List ℕ) → List ℕ → Type 0
BeginsWithAll octets messages after = All (λ message. length message ≤ most_octets) messages × (octets ≡ flat_map with_prefix messages ++ after)

-- Octets are the frames of these messages, in order, followed by less than a frame.
abbrev pub AreFrames : List ℕ → List (List ℕ) → List ℕ → Type 0
AreFrames octets messages rest = BeginsWithAll octets messages rest × IsPartial rest

-- This many octets are missing from the first frame: from its length or, once that is there, from its message.
pub record AreMissing (octets : List ℕ) (count : ℕ) : Type 0 where
  pub prefix : length octets < 2 → count + length octets ≡ 2
  pub message : 2 ≤ length octets → count ≡ 2 + first_length octets - length octets

-- Which lengths a reader of frames of at most `most` octets accepts.

-- The length of the first message, if it is there, is at least that of a header section, and the frame has at most `most` octets.
pub record Accepts (most : ℕ) (octets : List ℕ) : Type 0 where
  pub not_short : 2 ≤ length octets → header_size ≤ first_length octets
  pub not_long : 2 ≤ length octets → 2 + first_length octets ≤ most

-- The length is there, and is less than that of a header section.
pub record IsShort (octets : List ℕ) : Type 0 where
  pub there : 2 ≤ length octets
  pub short : first_length octets < header_size

-- The length is there and not short, and the frame has more than `most` octets.
pub record IsLong (most : ℕ) (octets : List ℕ) : Type 0 where
  pub there : 2 ≤ length octets
  pub not_short : header_size ≤ first_length octets
  pub long : most < 2 + first_length octets

-- The length is refused with this error.
abbrev pub Refuses : ℕ → List ℕ → FrameError → Type 0
Refuses most octets Short = IsShort octets
Refuses most octets Long = IsLong most octets

-- Octets give no message: they are less than a frame, or the length of the first message is refused.
abbrev pub GivesNone : ℕ → List ℕ → Type 0
GivesNone most octets = IsPartial octets ⊎ ((error : FrameError) × Refuses most octets error)
