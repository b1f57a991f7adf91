use Rattle.std.proofs.Common.{◌≡◌, subst}
use Rattle.std.specs.Prelude.{IfOk, IsOkAnd, IsSomeAnd}
use Rattle.dns_message.specs.Names.{labels}
use Rattle.dns_message.specs.Records.{encoded_record, record_item}
use Rattle.dns_message.specs.Messages.{message_octets}
use Rattle.dns_message.specs.Sections.RecordSection.{BeginsSection}
use Rattle.dns_message.specs.declared.message.Section.TheVariants.{Answer}
use Rattle.dns_message.specs.Builders.{EncodedAs}
use Rattle.tests_message.proofs.TypedReading.{opened, pushed_first, some_given, ok_given}
use Rattle.tests_message.proofs.typed.first_pushed.Goals as goal

pub unwrap-answers-requires : goal.unwrap-answers-requires
unwrap-answers-requires g c =
    let reads = c.requires.1.reads_back in
    opened c.start_or_fault.ensures (message_octets c.args.message.now) reads.answers_start c.answer.result reads.answers_at c.answer.ensures.fault

pub unwrap-requires : goal.unwrap-requires
unwrap-requires g c =
    let b = message_octets c.args.message.now in
    let begins = subst (λ r. IfOk r (BeginsSection Answer b)) c.unwrap-answers.ensures c.answer.ensures.starts in
    let given = pushed_first c.records_read_back.ensures.encoded c.starts_are_found.ensures g.D.ParseRecordData.layout b c.requires.0 c.unwrap-answers.result
    c.next.new.self c.next.result c.requires.1 begins c.next.ensures.steps in
    some_given c.next.result _ given

pub unwrap-first-requires : goal.unwrap-first-requires
unwrap-first-requires g c =
    let b = message_octets c.args.message.now in
    let begins = subst (λ r. IfOk r (BeginsSection Answer b)) c.unwrap-answers.ensures c.answer.ensures.starts in
    let given = pushed_first c.records_read_back.ensures.encoded c.starts_are_found.ensures g.D.ParseRecordData.layout b c.requires.0 c.unwrap-answers.result
    c.next.new.self c.next.result c.requires.1 begins c.next.ensures.steps in
    let answer = subst (λ o. IsSomeAnd o (λ answer. IsOkAnd answer (λ r. EncodedAs b c.requires.0 (encoded_record r)))) c.unwrap.ensures given in
    ok_given c.unwrap.result _ answer

pub unwrap-requires-2 : goal.unwrap-requires-2
unwrap-requires-2 g c =
    let b = message_octets c.args.message.now in
    let begins = subst (λ r. IfOk r (BeginsSection Answer b)) c.unwrap-answers.ensures c.answer.ensures.starts in
    let given = pushed_first c.records_read_back.ensures.encoded c.starts_are_found.ensures g.D.ParseRecordData.layout b c.requires.0 c.unwrap-answers.result
    c.next.new.self c.next.result c.requires.1 begins c.next.ensures.steps in
    let answer = subst (λ o. IsSomeAnd o (λ answer. IsOkAnd answer (λ r. EncodedAs b c.requires.0 (encoded_record r)))) c.unwrap.ensures given in
    let represents = subst (λ o. IsOkAnd o (λ r. EncodedAs b c.requires.0 (encoded_record r))) c.unwrap-first.ensures answer in
    let read = c.to_record_reads_back.ensures b c.requires.0 (encoded_record c.unwrap-first.result) c.to_record.result represents c.requires.1.fits_layout c.to_record.ensures.returned in
    ok_given c.to_record.result _ read

pub unwrap-requires-3 : goal.unwrap-requires-3
unwrap-requires-3 g c =
    let b = message_octets c.args.message.now in
    let begins = subst (λ r. IfOk r (BeginsSection Answer b)) c.unwrap-answers.ensures c.answer.ensures.starts in
    let given = pushed_first c.records_read_back.ensures.encoded c.starts_are_found.ensures g.D.ParseRecordData.layout b c.requires.0 c.unwrap-answers.result
    c.next.new.self c.next.result c.requires.1 begins c.next.ensures.steps in
    let answer = subst (λ o. IsSomeAnd o (λ answer. IsOkAnd answer (λ r. EncodedAs b c.requires.0 (encoded_record r)))) c.unwrap.ensures given in
    let represents = subst (λ o. IsOkAnd o (λ r. EncodedAs b c.requires.0 (encoded_record r))) c.unwrap-first.ensures answer in
    let read = c.to_record_reads_back.ensures b c.requires.0 (encoded_record c.unwrap-first.result) c.to_record.result represents c.requires.1.fits_layout c.to_record.ensures.returned in
    let some = subst (λ o. IsOkAnd o (λ o. IsSomeAnd o (λ r. record_item labels g.D.RecordData.rtype_of g.D.RecordData.parts r ≡ c.requires.0))) c.unwrap-2.ensures read in
    some_given c.unwrap-2.result _ some

pub returns : goal.returns
returns g c x was =
    let b = message_octets c.args.message.now in
    let begins = subst (λ r. IfOk r (BeginsSection Answer b)) c.unwrap-answers.ensures c.answer.ensures.starts in
    let given = pushed_first c.records_read_back.ensures.encoded c.starts_are_found.ensures g.D.ParseRecordData.layout b x c.unwrap-answers.result
    c.next.new.self c.next.result was begins c.next.ensures.steps in
    let answer = subst (λ o. IsSomeAnd o (λ answer. IsOkAnd answer (λ r. EncodedAs b x (encoded_record r)))) c.unwrap.ensures given in
    let represents = subst (λ o. IsOkAnd o (λ r. EncodedAs b x (encoded_record r))) c.unwrap-first.ensures answer in
    let read = c.to_record_reads_back.ensures b x (encoded_record c.unwrap-first.result) c.to_record.result represents was.fits_layout c.to_record.ensures.returned in
    let some = subst (λ o. IsOkAnd o (λ o. IsSomeAnd o (λ r. record_item labels g.D.RecordData.rtype_of g.D.RecordData.parts r ≡ x))) c.unwrap-2.ensures read in
    subst (λ o. IsSomeAnd o (λ r. record_item labels g.D.RecordData.rtype_of g.D.RecordData.parts r ≡ x)) c.unwrap-3.ensures some
