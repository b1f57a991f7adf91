-- What adding an option to a builder returns. RFC 6891 sections 6.1.1 and 6.1.2.
use Rattle.std.specs.Prelude.{◌≡◌, ℕ, ◌+◌, ◌<◌, ◌≤◌, [], ◌∷◌, ◌++◌, length, Result, Ok, Err}
use Rattle.dns_octets.specs.declared.error.AppendError.{AppendError}
use Rattle.dns_octets.specs.declared.error.AppendError.TheVariants.{ShortBuf, OutOfMemory}
use Rattle.dns_edns.specs.Options.{OptionItem, encode_options}
use Rattle.dns_edns_builder.specs.declared.builder.OptBuilder.{OptBuilder}
use Rattle.dns_edns_builder.specs.Gathered.{gathered, option_capacity}

-- the number of octets of the options with `x` after them, its four octets of code and length included
abbrev pub size_with : OptionItem → OptBuilder → ℕ
size_with x builder = length (encode_options (gathered builder).options) + 4 + length x.octets

-- The option becomes the last, and all else stays. On error nothing changes: `ShortBuf` if and only if the options would take more than 65,535 octets, else
-- `OutOfMemory`, only if they would exceed the capacity of the builder.
abbrev pub Adds : OptionItem → OptBuilder → OptBuilder → Result Unit AppendError → Type 0
Adds x old new (Ok _) =
    (gathered new ≡ record (gathered old) { options = (gathered old).options ++ x ∷ [] }) × (size_with x old ≤ 65535)
Adds x old new (Err ShortBuf) = (65535 < size_with x old) × (gathered new ≡ gathered old)
Adds x old new (Err OutOfMemory) = (size_with x old ≤ 65535) × (gathered new ≡ gathered old) × (option_capacity old < size_with x old)
