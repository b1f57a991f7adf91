use Rattle.std.proofs.Common.{arith}
use Rattle.dns_name.specs.NameTexts.{NameTextFaulty}
use Rattle.dns_name.proofs.name_text.next_octet.Goals as goal

pub returns-then-len-eq0 : goal.returns-then-len-eq0
returns-then-len-eq0 c = rw (c.in-Some.ensures.cases.0, c.if-first-eq46.true, c.if-len-eq0.true) NameTextFaulty.empty

pub returns-then-len-eq-MAX_LEN : goal.returns-then-len-eq-MAX_LEN
returns-then-len-eq-MAX_LEN c = rw c.in-Some.ensures.cases.0 (NameTextFaulty.long_label c.in_ok-octet.ensures c.if-len-eq-MAX_LEN.true)

pub returns-then-size-len-gt-MAX_SIZE : goal.returns-then-size-len-gt-MAX_SIZE
returns-then-size-len-gt-MAX_SIZE c =
    rw c.in-Some.ensures.cases.0 (NameTextFaulty.long_name {n = c.args.len} c.in_ok-octet.ensures (omega (arith, c.requires.short, c.if-len-eq-MAX_LEN.false)) c.if-size-len-gt-MAX_SIZE.true)
