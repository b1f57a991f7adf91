use Rattle.std.proofs.Common.{arith}
use Rattle.std.specs.Prelude.{Ok, Err}
use Rattle.dns_item.specs.ParsedRecord.{encoded_record}
use Rattle.dns_reply.proofs.RdataLemmas.{rdata_read}
use Rattle.dns_reply.proofs.rrset.rdata_of.Goals as goal

pub returns-in-Ok : goal.returns-in-Ok
returns-in-Ok c =
    rw (c.data-in-Ok.ensures, c.data.ensures) (rdata_read _ _ (encoded_record c.args.member.now) (Ok c.in-Ok.opaque) (omega arith) c.in-Ok.ensures.returned)

pub returns-in-Err : goal.returns-in-Err
returns-in-Err c = rdata_read _ _ (encoded_record c.args.member.now) (Err c.in-Err._error) (omega arith) c.in-Err.ensures.returned
