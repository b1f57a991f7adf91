use Rattle.dns_message.specs.Messages.{message_octets}
use Rattle.dns_message.specs.Transfers.{asked_of, state_of}
use Rattle.example_transfer.proofs.Reading.{message_read, message_refused, message_stops}
use Rattle.example_transfer.proofs.transfer.print_message.Goals as goal

pub returns-in-Err : goal.returns-in-Err
returns-in-Err g c =
    message_refused c.args.by_ixfr c.args.kept.now.items (asked_of c.args.transfer) (state_of c.args.transfer) (message_octets c.args.message.now) _ c.in-Err.error c.in-Err.ensures.refuses

pub returns-in-Ok-finish : goal.returns-in-Ok-finish
returns-in-Ok-finish g c =
    message_read c.args.by_ixfr _ _ (asked_of c.args.transfer) (state_of c.args.transfer) (message_octets c.args.message.now) c.in-Ok.steps c.in-Ok.ensures.takes _ _ c.in_default.ensures.printed
    c.print_steps.new.steps c.in_default.ensures.state c.in-Ok-finish.next c.in_default.ensures.asked c.in-Ok-finish.ensures

pub returns-in-Err-finish : goal.returns-in-Err-finish
returns-in-Err-finish g c =
    message_stops c.args.by_ixfr _ _ (asked_of c.args.transfer) (state_of c.args.transfer) (message_octets c.args.message.now) c.in-Ok.steps c.in-Ok.ensures.takes _ _ c.in_default.ensures.printed
    c.print_steps.new.steps c.in_default.ensures.state c.in-Err-finish.error c.in-Err-finish.ensures
