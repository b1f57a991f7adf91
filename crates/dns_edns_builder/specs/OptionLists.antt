-- How a list of options in octets grows. RFC 6891 section 6.1.2.
use Rattle.std.specs.Prelude.{◌≡◌, ℕ, ◌+◌, ◌<◌, List, ◌++◌, length, true, Some, Result, Err, OnOk, OnErr}
use Rattle.dns_octets.specs.declared.error.AppendError.{AppendError}
use Rattle.dns_octets.specs.declared.error.AppendError.TheVariants.{OutOfMemory}
use Rattle.dns_wire.specs.Targets.{AppendReturns}
use Rattle.dns_edns.specs.Options.{OptionItem, encode_option}

-- The option is appended to the list. On error the list stays: `ShortBuf` if it would have more than 65,535 octets, else `OutOfMemory`, only if it would exceed its capacity.
pub record AppendsOption (x : OptionItem) (capacity : ℕ) (before after : List ℕ) (result : Result Unit AppendError) : Type 0 where
  pub ok : OnOk result (after ≡ before ++ encode_option x)
  pub err : OnErr result (after ≡ before)
  pub outcome : AppendReturns (Some 65535) true (length before + 4 + length x.octets) result
  pub full : result ≡ Err OutOfMemory → capacity < length before + 4 + length x.octets
