-- Messages whose OPT record is padded, so that their length says less of what they hold. RFC 7830 and RFC 8467.
use Rattle.std.specs.Prelude.{ℕ, ◌+◌, ◌-◌, Bool, ◌==◌, ◌||◌, nat_lt, min, [], ◌∷◌, ◌++◌, if◌then◌else◌}
use Rattle.std.specs.Int.{next_multiple_of}
use Rattle.dns_edns.specs.KnownOptions.{padding_option, zeros}
use Rattle.dns_edns_builder.specs.Gathered.{Gathered}

-- the most octets of a padded message: the push limit, or 65,535 if that is less (RFC 1035 section 4.2.2)
abbrev pub most_padded : ℕ → ℕ
most_padded limit = min limit 65535

-- Padding to blocks of `block` octets a message that has n octets with its OPT record. The padding option takes four octets besides its zeros (RFC 7830 section 3).
module _ (block limit n : ℕ) where
  -- no option is added if a block has no octets, or if the most octets don't allow the four octets
  abbrev pub stays_unpadded : Bool
  stays_unpadded = (block == 0) || nat_lt (most_padded limit) (n + 4)

  -- the length with the option: the least multiple of `block` that is enough for it, or the most octets if that is less (RFC 8467 section 4.1)
  abbrev pub length_with_option : ℕ
  length_with_option = min (next_multiple_of (n + 4) block) (most_padded limit)

  -- the length after padding
  abbrev pub padded_length : ℕ
  padded_length = if stays_unpadded then n else length_with_option

  -- the OPT record with the padding option as its last
  abbrev pub padded : Gathered → Gathered
  padded g = if stays_unpadded then g else record g { options = g.options ++ padding_option (zeros (length_with_option - (n + 4))) ∷ [] }
