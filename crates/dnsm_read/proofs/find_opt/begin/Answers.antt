use Rattle.std.proofs.Common.{length, refl}
use Rattle.dnsm_read.proofs.OptSearchLemmas.{is_long, is_short}
use Rattle.dnsm_read.proofs.find_opt.begin.Goals as goal

pub returns-then-open-ne0-clause-none : goal.returns-then-open-ne0-clause-none
returns-then-open-ne0-clause-none c = (refl, is_short (length c.args.octets.now) c.open.result (λ long. (c.open.ensures.opens long).0) c.if-open-ne0.true)

pub returns-clause-open : goal.returns-clause-open
returns-clause-open c = (c.open.ensures.opens (is_long (length c.args.octets.now) c.open.result (λ less. (c.open.ensures.short less).0) c.if-open-ne0.false)).1.is_open

pub returns-clause-left : goal.returns-clause-left
returns-clause-left c = (c.open.ensures.opens (is_long (length c.args.octets.now) c.open.result (λ less. (c.open.ensures.short less).0) c.if-open-ne0.false)).1.walk

pub returns-clause-rcode : goal.returns-clause-rcode
returns-clause-rcode c = (c.open.ensures.opens (is_long (length c.args.octets.now) c.open.result (λ less. (c.open.ensures.short less).0) c.if-open-ne0.false)).1.fields.rcode
