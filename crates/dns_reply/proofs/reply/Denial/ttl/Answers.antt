use Rattle.std.proofs.Common.{◌∙◌, ap, min, sym}
use Rattle.std.specs.Prelude.{Option, option_map}
use Rattle.dns_data.specs.Soa.{minimum_of}
use Rattle.dns_data.specs.declared.soa.Soa.{Soa}
use Rattle.dns_item.specs.Record.{data_of, ttl_of}
use Rattle.dns_item.specs.declared.record.Record.{Record}
use Rattle.dns_name.specs.declared.parsed_name.ParsedName.{ParsedName}
use Rattle.dns_reply.specs.Records.{negative_ttl}
use Rattle.dns_reply.specs.Replies.{soa_item}
use Rattle.dns_reply.proofs.DenialLemmas.{minimum_read}
use Rattle.dns_reply.proofs.reply.Denial.ttl.Goals as goal

-- the TTL is that of the record, and the other number is the last of its RDATA
pub returns-in-Some : goal.returns-in-Some
returns-in-Some c =
    let soa = c.in-Some.soa in
    let minimum = c.minimum.ensures ∙ ap minimum_of c.data.ensures in
    let read = minimum_read (data_of soa) (rw minimum at c.minimum.type_inv) in
    c.from_secs.ensures ∙ c.min.ensures ∙ ap (λ n. min n c.minimum.result) (c.as_secs.ensures ∙ c.ttl.ensures) ∙ ap (min (ttl_of soa)) (minimum ∙ sym read)
    ∙ sym (ap (λ (o : Option (Record ParsedName (Soa ParsedName))). negative_ttl (option_map soa_item o)) c.in-Some.is)
