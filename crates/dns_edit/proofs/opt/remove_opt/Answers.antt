use Rattle.std.proofs.Common.{◌≡◌, ◌∙◌, arith, refl}
use Rattle.dns_read.specs.Message.{message_octets}
use Rattle.dns_read.specs.Sections.{additional_count}
use Rattle.dns_edit.proofs.OptLemmas.{not_last, removed}
use Rattle.dns_edit.proofs.opt.remove_opt.Goals as goal

pub returns-in-Err-clause-removes : goal.returns-in-Err-clause-removes
returns-in-Err-clause-removes g c = (c.in-Err.ensures, refl)

pub returns-in-Ok-None-clause-removes : goal.returns-in-Ok-None-clause-removes
returns-in-Ok-None-clause-removes g c = let found = rw c.in-Ok-None.field-0-is at c.in-Ok-None.ensures in (found, refl)

pub overflow_add-before : goal.overflow_add-before
overflow_add-before g c =
    let found = rw c.in-Ok-Some.field-0-is at c.in-Ok-Some.ensures in
    omega (arith, found.3, c.arcount-count.ensures, c.header_counts.ensures.arcount)

pub returns-then-before-count-clause-removes : goal.returns-then-before-count-clause-removes
returns-then-before-count-clause-removes g c =
    let b = message_octets c.args.message.now in
    let found = rw c.in-Ok-Some.field-0-is at c.in-Ok-Some.ensures in
    let is : c.arcount-count.result ≡ additional_count b = c.arcount-count.ensures ∙ c.header_counts.ensures.arcount in
    (not_last b (c.in-Ok-Some.before, c.in-Ok-Some._opt) c.arcount-count.result is c.if-before-count.true found, refl)

pub remove_last_additional-requires : goal.remove_last_additional-requires
remove_last_additional-requires g c =
    let found = rw c.in-Ok-Some.field-0-is at c.in-Ok-Some.ensures in
    omega (arith, found.3)

pub returns-else-before-count-clause-removes : goal.returns-else-before-count-clause-removes
returns-else-before-count-clause-removes g c =
    let b = message_octets c.args.message.now in
    let found = rw c.in-Ok-Some.field-0-is at c.in-Ok-Some.ensures in
    let is : c.arcount-count.result ≡ additional_count b = c.arcount-count.ensures ∙ c.header_counts.ensures.arcount in
    let last = c.remove_last_additional.ensures in
    removed b (message_octets c.remove_last_additional.new.self) (c.in-Ok-Some.before, c.in-Ok-Some._opt) c.arcount-count.result is c.if-before-count.false found last.count last.before last.after
