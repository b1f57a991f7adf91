use Rattle.std.proofs.Common.{◌∙◌, ap, refl}
use Rattle.dns_message.specs.Names.{name_labels, labels}
use Rattle.dns_message.specs.Data.{address_of, nsdname_of}
use Rattle.dns_message.specs.Records.{RecordItem, owner_of, class_of, ttl_of, data_of}
use Rattle.dns_message.specs.Messages.{message_octets}
use Rattle.dns_message.specs.Builders.{fresh, InAnswer, move_to, with_record}
use Rattle.tests_message.specs.Typed.{server_record, address_record}
use Rattle.tests_message.proofs.TypedReading.{state, one_server, one_address, name_first, octets_first}
use Rattle.tests_message.proofs.typed.reported.Goals as goal

pub one_answer-found-requires : goal.one_answer-found-requires
one_answer-found-requires c κs =
    let delegation = c.new-delegation.result in
    let zone = name_labels (owner_of delegation) in
    let class = class_of delegation in
    let ttl = ttl_of delegation in
    let server = name_labels (nsdname_of (data_of delegation)) in
    let owner = name_labels c.nsdname-name.result.now in
    let b = message_octets c.as_message-message.result in
    let law = c.records_read_back.ensures.typed in
    let octets = address_of c.args.address in
    let four = c.args.address.four in
    let entered = c.answer-builder.ensures fresh c.in_ok-from_target.ensures.fresh in
    let reported = c.in_ok-push.ensures.accepted (move_to InAnswer fresh) entered in
    let s = with_record InAnswer (server_record zone class ttl server) (move_to InAnswer fresh) in
    let both = c.in_ok-push-2.ensures.accepted s reported in
    let h = c.as_message-message.ensures.reads_back (state law b zone class ttl server owner 1 c.from_secs-2.result octets four) both in
    ((refl, tt), (server_record zone class ttl server, one_server law b zone class ttl server owner 1 c.from_secs-2.result octets four h))

pub one_answer-glue-requires : goal.one_answer-glue-requires
one_answer-glue-requires c κs =
    let delegation = c.new-delegation.result in
    let zone = name_labels (owner_of delegation) in
    let class = class_of delegation in
    let ttl = ttl_of delegation in
    let server = name_labels (nsdname_of (data_of delegation)) in
    let owner = name_labels c.nsdname-name.result.now in
    let b = message_octets c.as_message-message.result in
    let law = c.records_read_back.ensures.typed in
    let octets = address_of c.args.address in
    let four = c.args.address.four in
    let entered = c.answer-builder.ensures fresh c.in_ok-from_target.ensures.fresh in
    let reported = c.in_ok-push.ensures.accepted (move_to InAnswer fresh) entered in
    let s = with_record InAnswer (server_record zone class ttl server) (move_to InAnswer fresh) in
    let both = c.in_ok-push-2.ensures.accepted s reported in
    let h = c.as_message-message.ensures.reads_back (state law b zone class ttl server owner 1 c.from_secs-2.result octets four) both in
    ((refl, tt), (address_record owner 1 c.from_secs-2.result octets, one_address law b zone class ttl server owner 1 c.from_secs-2.result octets four h))

pub returns-clause-server : goal.returns-clause-server
returns-clause-server c =
    let delegation = c.new-delegation.result in
    let zone = name_labels (owner_of delegation) in
    let class = class_of delegation in
    let ttl = ttl_of delegation in
    let server = name_labels (nsdname_of (data_of delegation)) in
    let owner = name_labels c.nsdname-name.result.now in
    let b = message_octets c.as_message-message.result in
    let law = c.records_read_back.ensures.typed in
    let octets = address_of c.args.address in
    let four = c.args.address.four in
    let entered = c.answer-builder.ensures fresh c.in_ok-from_target.ensures.fresh in
    let reported = c.in_ok-push.ensures.accepted (move_to InAnswer fresh) entered in
    let s = with_record InAnswer (server_record zone class ttl server) (move_to InAnswer fresh) in
    let both = c.in_ok-push-2.ensures.accepted s reported in
    let h = c.as_message-message.ensures.reads_back (state law b zone class ttl server owner 1 c.from_secs-2.result octets four) both in
    let read = c.one_answer-found.ensures (server_record zone class ttl server) (one_server law b zone class ttl server owner 1 c.from_secs-2.result octets four h) in
    c.in_ok-name.ensures.0 ∙ ap labels (c.nsdname.ensures ∙ ap (λ d. nsdname_of d) c.data-2.ensures) ∙ ap (λ (x : RecordItem). name_first x.parts) read
    ∙ ap (λ d. name_labels (nsdname_of d)) c.new-delegation.ensures.same_data ∙ ap (λ n. name_labels n) c.new-2.ensures

pub returns-clause-address : goal.returns-clause-address
returns-clause-address c =
    let delegation = c.new-delegation.result in
    let zone = name_labels (owner_of delegation) in
    let class = class_of delegation in
    let ttl = ttl_of delegation in
    let server = name_labels (nsdname_of (data_of delegation)) in
    let owner = name_labels c.nsdname-name.result.now in
    let b = message_octets c.as_message-message.result in
    let law = c.records_read_back.ensures.typed in
    let octets = address_of c.args.address in
    let four = c.args.address.four in
    let entered = c.answer-builder.ensures fresh c.in_ok-from_target.ensures.fresh in
    let reported = c.in_ok-push.ensures.accepted (move_to InAnswer fresh) entered in
    let s = with_record InAnswer (server_record zone class ttl server) (move_to InAnswer fresh) in
    let both = c.in_ok-push-2.ensures.accepted s reported in
    let h = c.as_message-message.ensures.reads_back (state law b zone class ttl server owner 1 c.from_secs-2.result octets four) both in
    let read = c.one_answer-glue.ensures (address_record owner 1 c.from_secs-2.result octets) (one_address law b zone class ttl server owner 1 c.from_secs-2.result octets four h) in
    ap address_of c.into_data.ensures ∙ ap (λ (x : RecordItem). octets_first x.parts) read
