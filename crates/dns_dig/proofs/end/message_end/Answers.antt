use Rattle.std.proofs.Common.{◌∙◌}
use Rattle.dns_name.specs.Names.{fault_of}
use Rattle.dns_read.specs.Message.{message_octets}
use Rattle.dns_dig.proofs.Ends.{end_found, end_missing}
use Rattle.dns_dig.proofs.end.message_end.Goals as goal

pub returns-in-Ok : goal.returns-in-Ok
returns-in-Ok c =
    let begins = rw c.in-Ok.is at c.additional.ensures.starts in
    c.end_of.ensures ∙ end_found (message_octets c.args.message.now) c.in-Ok.records begins

pub returns-in-Err : goal.returns-in-Err
returns-in-Err c =
    let fault = rw c.in-Err.is at c.additional.ensures.fault in
    end_missing (message_octets c.args.message.now) (fault_of c.in-Err.field-0) fault
