-- The first message of a stream. RFC 1035 section 4.2.2.
use Rattle.std.specs.Prelude.{◌≡◌, ℕ, List, length}
use Rattle.dns_stream.specs.Frames.{BeginsWith, Refuses}
use Rattle.dns_stream.specs.declared.error.FrameError.{FrameError}

-- the octets begin with the frame of a message of this many octets
abbrev pub BeginsWithLength : List ℕ → ℕ → Type 0
BeginsWithLength octets len = (message : List ℕ) × (after : List ℕ) × BeginsWith octets message after × (length message ≡ len)

-- the length of the first message is refused; none is too long, since 65,537 octets is the greatest length of a frame
abbrev pub RefusesLength : List ℕ → Type 0
RefusesLength octets = (error : FrameError) × Refuses 65537 octets error
