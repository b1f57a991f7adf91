use Rattle.std.proofs.Common.{refl, arith}
use Rattle.dns_message.specs.Messages.{message_octets}
use Rattle.dns_message.proofs.CallerLemmas.{frame_length}
use Rattle.dns_message.specs.Transfers.{asked_of, state_of}
use Rattle.example_transfer.proofs.Reading.{after_failure, after_message, at_end, at_refused, none_read}
use Rattle.example_transfer.proofs.transfer.print_transfer.Goals as goal

pub messages-init : goal.messages-init
messages-init g c = record { reads = rw c.new-kept.ensures.items (none_read _ _ _ _ _); asked = refl }

pub messages-smaller : goal.messages-smaller
messages-smaller g c =
    let begins = rw c.in-Ok-Some.field-0-is at c.in-Ok-Some.ensures.message in
    let long = frame_length c.messages.rest.now (message_octets c.in-Ok-Some.message) c.in-Ok-Some.after.now begins in
    omega arith

pub messages-preserved : goal.messages-preserved
messages-preserved g c =
    let begins = rw c.in-Ok-Some.field-0-is at c.in-Ok-Some.ensures.message in
    let more =
    after_message c.args.by_ixfr (asked_of c.args.transfer) (state_of c.args.transfer) c.args.stream.now _ (state_of c.messages.current) c.messages.rest.now _ _ c.messages.invariant.reads
    (asked_of c.messages.current) c.messages.invariant.asked (message_octets c.in-Ok-Some.message) c.in-Ok-Some.after.now _ begins _ c.in-Ok.next c.in-Ok.ensures in
    record { reads = more.0; asked = more.1 }

pub returns-in-Err-print_message : goal.returns-in-Err-print_message
returns-in-Err-print_message g c =
    let begins = rw c.in-Ok-Some.field-0-is at c.in-Ok-Some.ensures.message in
    after_failure c.args.by_ixfr (asked_of c.args.transfer) (state_of c.args.transfer) c.args.stream.now _ (state_of c.messages.current) c.messages.rest.now _ _ c.messages.invariant.reads
    (asked_of c.messages.current) c.messages.invariant.asked (message_octets c.in-Ok-Some.message) c.in-Ok-Some.after.now _ begins _ c.in-Err-print_message.failure
    c.in-Err-print_message.ensures

pub returns-in-Ok-None : goal.returns-in-Ok-None
returns-in-Ok-None g c =
    let partial = rw c.in-Ok-None.field-0-is at c.in-Ok-None.ensures.none in
    at_end c.args.by_ixfr (asked_of c.args.transfer) (state_of c.args.transfer) c.args.stream.now _ (state_of c.messages.current) c.messages.rest.now _ _ c.messages.invariant.reads
    c.end_of.result partial c.end_of.ensures

pub returns-in-Err : goal.returns-in-Err
returns-in-Err g c =
    at_refused c.args.by_ixfr (asked_of c.args.transfer) (state_of c.args.transfer) c.args.stream.now _ (state_of c.messages.current) c.messages.rest.now _ _ c.messages.invariant.reads
    c.in-Err.error c.in-Err.ensures.refused
