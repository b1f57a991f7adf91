-- What the program prints for failed pushes.
use Rattle.std.specs.Prelude.{ℕ, List, codes}
use Rattle.dns_build.specs.declared.push_error.PushError.{PushError}
use Rattle.dns_build.specs.declared.push_error.PushError.TheVariants.{CountOverflow, LimitExceeded, ShortBuf, OutOfMemory}

-- the word that reports why a push failed
abbrev pub refusal : PushError → List ℕ
refusal ShortBuf = codes "short"
refusal LimitExceeded = codes "limit"
refusal CountOverflow = codes "count"
refusal OutOfMemory = codes "memory"
