use Rattle.std.proofs.Common.{arith, refl, subst}
use Rattle.dns_read.specs.Message.{message_octets}
use Rattle.dns_edit.specs.Options.{OptionAt}
use Rattle.dns_edit.proofs.OptionLemmas.{data_within}
use Rattle.dns_edit.proofs.options.replace_option.Goals as goal

pub returns-in-Err-clause-replaces : goal.returns-in-Err-clause-replaces
returns-in-Err-clause-replaces g c = (c.in-Err.ensures, refl)

pub returns-in-Ok-None-clause-replaces : goal.returns-in-Ok-None-clause-replaces
returns-in-Ok-None-clause-replaces g c = let found = rw c.in-Ok-None.field-0-is at c.in-Ok-None.ensures in (found, refl)

pub returns-then-len-octets-clause-replaces : goal.returns-then-len-octets-clause-replaces
returns-then-len-octets-clause-replaces g c =
    let found = rw c.in-Ok-Some.field-0-is at c.in-Ok-Some.ensures in
    ((c.in-Ok-Some.start, c.in-Ok-Some.len, found, c.if-len-octets.true), refl)

pub overwrite-requires-clause-after_header : goal.overwrite-requires-clause-after_header
overwrite-requires-clause-after_header g c =
    let found = rw c.in-Ok-Some.field-0-is at c.in-Ok-Some.ensures in
    (data_within found).0

pub overwrite-requires-clause-within : goal.overwrite-requires-clause-within
overwrite-requires-clause-within g c =
    let found = rw c.in-Ok-Some.field-0-is at c.in-Ok-Some.ensures in
    omega (arith, (data_within found).1, c.if-len-octets.false)

pub returns-else-len-octets-clause-replaces : goal.returns-else-len-octets-clause-replaces
returns-else-len-octets-clause-replaces g c =
    let b = message_octets c.args.message.now in
    let found = rw c.in-Ok-Some.field-0-is at c.in-Ok-Some.ensures in
    (c.in-Ok-Some.start, subst (λ n. OptionAt c.args.code b c.in-Ok-Some.start n) c.if-len-octets.false found, c.overwrite.ensures.octets)
