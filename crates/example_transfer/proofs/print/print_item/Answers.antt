use Rattle.std.proofs.Common.{[], refl}
use Rattle.dns_message.proofs.CallerLemmas.{appends_none}
use Rattle.example_transfer.proofs.print.print_item.Goals as goal

pub returns-in-Ok : goal.returns-in-Ok
returns-in-Ok g c = rw c.in-Ok.is c.print_step.ensures

pub returns-in-Err : goal.returns-in-Err
returns-in-Err g c = rw c.in-Err.is ([], (refl, refl), appends_none _)
