use Rattle.std.proofs.Common.{arith}
use Rattle.dns_stream.proofs.frames.missing_octets.Goals as goal

pub returns-then-octets-lt-PREFIX_LEN : goal.returns-then-octets-lt-PREFIX_LEN
returns-then-octets-lt-PREFIX_LEN c = record { prefix = λ few. omega arith; message = λ two. absurd (omega arith) }

pub returns : goal.returns
returns c =
    let is = c.length_of.ensures.value in
    let rest = c.saturating_sub.ensures in
    record { prefix = λ few. absurd (omega arith); message = λ two. omega (arith, is, rest) }
