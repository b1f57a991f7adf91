use Rattle.std.proofs.Common.{◌∙◌, ap, sym}
use Rattle.std.specs.Prelude.{option_map, option_and_then}
use Rattle.std.specs.Result.{result_ok}
use Rattle.dns_name.specs.ParsedName.{labels}
use Rattle.dns_item.specs.Record.{record_item}
use Rattle.dns_item.specs.TypedRecords.{parsed_as}
use Rattle.dns_read.specs.Message.{message_octets}
use Rattle.dns_read.proofs.RecordSearchLemmas.{last_read, none_last, last_given}
use Rattle.dns_read.proofs.message.Message.get_last_additional.Goals as goal

pub returns-in_err-ok : goal.returns-in_err-ok
returns-in_err-ok g c =
    rw c.from_residual.ensures (sym (none_last (message_octets c.args.self.now) g.D.ParseRecordData.layout c.additional.result c.additional.ensures.fault c.in_err-ok.ensures.value))

pub returns-in_err-last_of : goal.returns-in_err-last_of
returns-in_err-last_of g c =
    let layouts = g.D.ParseRecordData.layout in
    let read = last_read (message_octets c.args.self.now) c.additional.result c.in_ok-ok.field-0 c.additional.ensures.starts c.in_ok-ok.ensures.value in
    rw c.from_residual-in_err-last_of.ensures (ap (option_and_then (λ x. option_and_then result_ok (parsed_as layouts x))) (c.in_err-last_of.ensures.record ∙ read))

pub returns-in_err-ok-2 : goal.returns-in_err-ok-2
returns-in_err-ok-2 g c =
    let b = message_octets c.args.self.now in
    let typed = g.D.RecordData in
    let read = last_read b c.additional.result c.in_ok-ok.field-0 c.additional.ensures.starts c.in_ok-ok.ensures.value in
    rw c.from_residual-in_err-ok-2.ensures (
    ap (option_and_then (option_map (record_item labels typed.rtype_of typed.parts))) c.in_err-ok-2.ensures.value
    ∙ last_given typed.rtype_of typed.parts g.D.ParseRecordData.layout b c.in_ok-last_of.field-0 c.to_record.result (c.in_ok-last_of.ensures.record ∙ read)
    c.in_ok-last_of.ensures.span c.to_record.ensures.returned)

pub returns : goal.returns
returns g c =
    let b = message_octets c.args.self.now in
    let typed = g.D.RecordData in
    let read = last_read b c.additional.result c.in_ok-ok.field-0 c.additional.ensures.starts c.in_ok-ok.ensures.value in
    ap (option_and_then (option_map (record_item labels typed.rtype_of typed.parts))) c.in_ok-ok-2.ensures.value
    ∙ last_given typed.rtype_of typed.parts g.D.ParseRecordData.layout b c.in_ok-last_of.field-0 c.to_record.result (c.in_ok-last_of.ensures.record ∙ read)
    c.in_ok-last_of.ensures.span c.to_record.ensures.returned
