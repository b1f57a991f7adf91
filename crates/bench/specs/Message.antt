-- Names written as one message. RFC 1035 section 4.1.4.
use Rattle.std.specs.Prelude.{◌≡◌, ◌≤◌, ℕ, List, length}
use Rattle.dns_name.specs.ParsedName.{labels}
use Rattle.dns_wire.specs.Encoders.{Rule, encode_name}
use Rattle.dns_wire.specs.Targets.{Written, append}
use Rattle.dns_name.specs.declared.parsed_name.ParsedName.{ParsedName}

-- the content with a name appended
abbrev pub with_name : Rule → Written → ParsedName → Written
with_name rule t name = append (encode_name rule (labels name)) t

-- what a call leaves in the output buffer: its length stays, and the message fits in it
pub record HandsOut (old new : List ℕ) (len : ℕ) : Type 0 where
  pub capacity : length new ≡ length old
  pub within : len ≤ length new
