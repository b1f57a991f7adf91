use Rattle.std.proofs.Common.{◌∙◌, ap, sym}
use Rattle.std.specs.Prelude.{option_and_then}
use Rattle.dns_name.specs.Names.{fault_of}
use Rattle.dns_read.specs.declared.section.Section.TheVariants.{Additional}
use Rattle.dns_read.specs.Message.{message_octets}
use Rattle.dns_read.specs.OptSearches.{first_opt_in, opt_said}
use Rattle.dns_read.proofs.theory.SectionStartLemmas.{begins_reading, no_reading, no_additionals}
use Rattle.dns_read.proofs.message.Message.opt.Goals as goal

pub returns-in-Ok : goal.returns-in-Ok
returns-in-Ok g c =
    let read = begins_reading Additional (message_octets c.args.self.now) c.in-Ok.section c.in-Ok.ensures.starts in
    c.first_opt.ensures ∙ ap (λ xs. option_and_then opt_said (first_opt_in xs)) read

pub returns-in-Err : goal.returns-in-Err
returns-in-Err g c =
    let b = message_octets c.args.self.now in
    let none = no_reading Additional b (no_additionals b (fault_of c.in-Err.field-0) c.in-Err.ensures.fault) in
    sym (ap (λ xs. option_and_then opt_said (first_opt_in xs)) none)
