use Rattle.std.proofs.Common.{◌<◌, ap, arith, length, subst}
use Rattle.std.specs.Prelude.{◌↔◌, IsTrue}
use Rattle.dns_name.specs.Names.{fault_of}
use Rattle.dns_read.specs.Message.{message_octets}
use Rattle.dns_read.specs.declared.section.Section.TheVariants.{Additional}
use Rattle.dns_read.proofs.theory.SectionStartLemmas.{begins_reading, no_additionals, no_reading}
use Rattle.dns_reply.specs.Opts.{opts_in}
use Rattle.dns_reply.specs.Records.{Records}
use Rattle.dns_reply.proofs.opts.has_many_opts.Goals as goal

-- A section that starts is read from there.
pub returns-in-Ok : goal.returns-in-Ok
returns-in-Ok g c =
    let b = message_octets c.args.message.now in
    let read = begins_reading Additional b c.in-Ok.additionals c.in-Ok.ensures.starts in
    subst (λ (xs : Records). IsTrue c.has_second.result ↔ (1 < length (opts_in xs))) read c.has_second.ensures

-- A section without a start has no record.
pub returns-in-Err : goal.returns-in-Err
returns-in-Err g c =
    let b = message_octets c.args.message.now in
    let none = no_reading Additional b (no_additionals b (fault_of c.in-Err._error) c.in-Err.ensures.fault) in
    let empty = ap (λ (xs : Records). length (opts_in xs)) none in
    (λ some. absurd (cc), λ more. absurd (omega (arith, empty, more)))
