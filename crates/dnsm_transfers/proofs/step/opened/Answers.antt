use Rattle.std.proofs.Common.{◌∙◌, refl, subst, sym}
use Rattle.dns_read.specs.Message.{message_octets}
use Rattle.dns_read.specs.Sections.{StartsAt}
use Rattle.dns_read.specs.declared.section.Section.TheVariants.{Answer}
use Rattle.dns_transfer.specs.Asked.{asked_by}
use Rattle.dnsm_transfers.specs.Transfers.{state_of}
use Rattle.dnsm_transfers.proofs.TransferLemmas.{one_asked, opens}
use Rattle.dnsm_transfers.proofs.step.opened.Goals as goal

pub returns-in-Ok-answers_of-clause-opens : goal.returns-in-Ok-answers_of-clause-opens
returns-in-Ok-answers_of-clause-opens c =
    λ asked h.
    let t = c.args.transfer.now in
    let b = message_octets c.in-Ok.message in
    let found = c.in-Ok-answers_of.ensures in
    opens asked (asked_by c.in-Ok-query_of.query) (state_of t) c.state_of.result c.args.octets.now b
    (record { place = c.pos-place.result; left = c.ancount-left.result; section = 1; status = 0; owner = 0 })
    (one_asked t c.in-Ok-query_of.query asked c.in-Ok-query_of.ensures.query h) c.state_of.ensures c.in-Ok.ensures.octets found.no_error
    (subst (StartsAt Answer b) (sym c.pos-place.ensures) found.begins.start) (c.ancount-left.ensures ∙ c.header_counts.ensures.ancount) refl refl refl
