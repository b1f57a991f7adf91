use Rattle.std.proofs.Common.{◌+◌, ◌≤◌, length, arith}
use Rattle.dns_stream.proofs.theory.FrameLemmas.{frame_in_range}
use Rattle.dns_stream.proofs.frames.beginning_of.Goals as goal

pub returns-then-octets-lt-PREFIX_LEN : goal.returns-then-octets-lt-PREFIX_LEN
returns-then-octets-lt-PREFIX_LEN c =
    (λ two. absurd (omega arith), record { not_short = λ two. absurd (omega arith); not_long = λ two. absurd (omega arith) })

pub returns-then-len-lt-LEN : goal.returns-then-len-lt-LEN
returns-then-len-lt-LEN c = let is = c.length_of-len.ensures.value in record { there = omega arith; short = omega (arith, is) }

pub returns-then-len-most : goal.returns-then-len-most
returns-then-len-most c =
    let is = c.length_of-len.ensures.value in record { there = omega arith; not_short = omega (arith, is); long = omega (arith, is) }

pub returns-then-len-octets : goal.returns-then-len-octets
returns-then-len-octets c =
    let is = c.length_of-len.ensures.value in
    (λ two. omega (arith, is), record { not_short = λ two. omega (arith, is); not_long = λ two. omega (arith, is) })

pub returns : goal.returns
returns c =
    let octets = c.args.octets.now in
    let len = c.length_of-len.result in
    let is = c.length_of-len.ensures.value in
    let there : 2 + len ≤ length octets = omega arith in
    record {
      accepted = record { not_short = λ two. omega (arith, is); not_long = λ two. omega (arith, is) };
      not_short = omega arith;
      there = there;
      begins = frame_in_range octets len (λ k. omega (arith, c.type_inv.octets k)) is there;
    }
