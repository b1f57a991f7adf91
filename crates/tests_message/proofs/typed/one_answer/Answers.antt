use Rattle.std.proofs.Common.{◌≡◌, ◌∙◌, subst}
use Rattle.std.specs.Prelude.{IfOk, IsSomeAnd, IsOkAnd}
use Rattle.dns_message.specs.Names.{labels}
use Rattle.dns_message.specs.Records.{record_item}
use Rattle.dns_message.specs.Messages.{message_octets}
use Rattle.dns_message.specs.Sections.RecordSection.{BeginsSection}
use Rattle.dns_message.specs.Sections.RecordIter.{typed_left}
use Rattle.dns_message.specs.declared.message.Section.TheVariants.{Answer}
use Rattle.tests_message.proofs.TypedReading.{opened, one_left, one_given, some_given, ok_given}
use Rattle.tests_message.proofs.typed.one_answer.Goals as goal

pub unwrap-answers-requires : goal.unwrap-answers-requires
unwrap-answers-requires g c =
    let one = c.requires.1 in
    opened c.start_or_fault.ensures (message_octets c.args.message.now) one.start c.answer.result one.starts c.answer.ensures.fault

pub unwrap-requires : goal.unwrap-requires
unwrap-requires g c =
    let b = message_octets c.args.message.now in
    let begins = subst (λ r. IfOk r (BeginsSection Answer b)) c.unwrap-answers.ensures c.answer.ensures.starts in
    let layouts = g.D.ParseRecordData.layout in
    let left = c.limit_to-records.ensures.left ∙ one_left c.starts_are_found.ensures b layouts c.requires.0 c.unwrap-answers.result begins c.requires.1 in
    some_given c.next.result _
    (one_given g.D.RecordData.rtype_of g.D.RecordData.parts (typed_left layouts) c.limit_to-records.result c.next.new.self c.requires.0 c.next.result c.next.ensures.steps left)

pub unwrap-requires-2 : goal.unwrap-requires-2
unwrap-requires-2 g c =
    let b = message_octets c.args.message.now in
    let begins = subst (λ r. IfOk r (BeginsSection Answer b)) c.unwrap-answers.ensures c.answer.ensures.starts in
    let layouts = g.D.ParseRecordData.layout in
    let left = c.limit_to-records.ensures.left ∙ one_left c.starts_are_found.ensures b layouts c.requires.0 c.unwrap-answers.result begins c.requires.1 in
    let given = one_given g.D.RecordData.rtype_of g.D.RecordData.parts (typed_left layouts) c.limit_to-records.result c.next.new.self c.requires.0 c.next.result c.next.ensures.steps left in
    ok_given c.unwrap.result _ (subst (λ o. IsSomeAnd o (λ answer. IsOkAnd answer (λ r. record_item labels g.D.RecordData.rtype_of g.D.RecordData.parts r ≡ c.requires.0))) c.unwrap.ensures given)

pub returns : goal.returns
returns g c x has =
    let b = message_octets c.args.message.now in
    let begins = subst (λ r. IfOk r (BeginsSection Answer b)) c.unwrap-answers.ensures c.answer.ensures.starts in
    let layouts = g.D.ParseRecordData.layout in
    let left = c.limit_to-records.ensures.left ∙ one_left c.starts_are_found.ensures b layouts x c.unwrap-answers.result begins has in
    let given = one_given g.D.RecordData.rtype_of g.D.RecordData.parts (typed_left layouts) c.limit_to-records.result c.next.new.self x c.next.result c.next.ensures.steps left in
    let answer = subst (λ o. IsSomeAnd o (λ answer. IsOkAnd answer (λ r. record_item labels g.D.RecordData.rtype_of g.D.RecordData.parts r ≡ x))) c.unwrap.ensures given in
    subst (λ o. IsOkAnd o (λ r. record_item labels g.D.RecordData.rtype_of g.D.RecordData.parts r ≡ x)) c.unwrap-2.ensures answer
