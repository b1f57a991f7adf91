use Rattle.std.proofs.Common.{ap, length}
use Rattle.dns_build.proofs.Messages.{measured, unmeasured}
use Rattle.dns_build.proofs.measure.measure.Goals as goal

pub returns-in-Err : goal.returns-in-Err
returns-in-Err g c before encoder growing message is composes =
    unmeasured _ _ encoder before _ _ _ growing message is c.truncate.ensures.cut c.in-Err.error (rw c.in-Err.is at composes)

pub returns : goal.returns
returns g c before encoder growing message is composes =
    measured _ _ encoder before _ _ _ growing message is c.truncate.ensures.cut _ c.in_default.field-0 (ap length c.as_slice-end.ensures.octets) (rw c.in_default.is at composes)
