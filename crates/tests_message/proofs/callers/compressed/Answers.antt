use Rattle.dns_message.specs.Builders.{fresh}
use Rattle.tests_message.proofs.callers.compressed.Goals as goal

pub returns-in-Ok-run : goal.returns-in-Ok-run
returns-in-Ok-run g c =
    let ran = c.in-Ok-run.ensures.ran in
    let message = (ran.runs fresh c.in-Ok.ensures.fresh).message in
    (ran.reported, record { reads_back = message.reads_back; pointers = message.pointers; shortest = λ short. message.shortest tt (message.in_range short) })
