use Rattle.std.proofs.Common.{◌∙◌, ap, take, drop}
use Rattle.dns_read.proofs.HeaderLemmas.{overwritten_front, overwritten_after}
use Rattle.dns_read.proofs.message.Message.set_header.Goals as goal

pub returns-clause-header : goal.returns-clause-header
returns-clause-header g c =
    ap (take 4) c.write_at.ensures.octets ∙ overwritten_front _ c.as_slice.result.now c.as_slice.ensures.length ∙ c.as_slice.ensures.octets

pub returns-clause-others : goal.returns-clause-others
returns-clause-others g c =
    ap (drop 4) c.write_at.ensures.octets ∙ overwritten_after _ c.as_slice.result.now c.as_slice.ensures.length
