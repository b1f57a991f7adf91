use Rattle.std.proofs.Common.{◌∙◌, ap, refl, []}
use Rattle.dns_message.specs.Names.{name_labels}
use Rattle.dns_message.specs.Data.{address_of}
use Rattle.dns_message.specs.Records.{RecordItem}
use Rattle.dns_message.specs.Builders.{fresh, InAnswer, move_to, with_record}
use Rattle.tests_message.specs.Typed.{address_record}
use Rattle.tests_message.proofs.TypedReading.{octets_first}
use Rattle.tests_message.proofs.typed.address_reported.Goals as goal

pub first_pushed-found-requires : goal.first_pushed-found-requires
first_pushed-found-requires c κs =
    let x = address_record (name_labels c.args.owner) 1 c.from_secs.result (address_of c.args.address) in
    let s = with_record InAnswer x (move_to InAnswer fresh) in
    let entered = c.answer-builder.ensures fresh c.in_ok-new_vec.ensures.fresh in
    let represents = c.in_ok-push.ensures.accepted (move_to InAnswer fresh) entered in
    let h = c.as_message-message.ensures.reads_back s represents in
    ((refl, tt), (x, record { s = s; reads_back = h; after = []; first = refl; fits_layout = (c.args.address.four, refl) }))

pub returns : goal.returns
returns c =
    let x = address_record (name_labels c.args.owner) 1 c.from_secs.result (address_of c.args.address) in
    let s = with_record InAnswer x (move_to InAnswer fresh) in
    let entered = c.answer-builder.ensures fresh c.in_ok-new_vec.ensures.fresh in
    let represents = c.in_ok-push.ensures.accepted (move_to InAnswer fresh) entered in
    let h = c.as_message-message.ensures.reads_back s represents in
    let read = c.first_pushed-found.ensures x (record { s = s; reads_back = h; after = []; first = refl; fits_layout = (c.args.address.four, refl) }) in
    ap address_of c.into_data.ensures ∙ ap (λ (x : RecordItem). octets_first x.parts) read
