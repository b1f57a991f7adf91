use Rattle.std.proofs.Common.{◌∙◌, ap}
use Rattle.dns_item.specs.TypedRecords.{typed_result}
use Rattle.dns_read.specs.Limited.{limited}
use Rattle.dns_read.specs.RecordIter.{typed_left}
use Rattle.dns_read.specs.declared.section.Section.TheVariants.{Answer}
use Rattle.dns_name.specs.Names.{fault_of}
use Rattle.dns_read.specs.Message.{message_octets}
use Rattle.dns_read.specs.SectionStarts.{records_of}
use Rattle.dns_read.proofs.theory.SectionStartLemmas.{begins_reading, no_reading, no_answers}
use Rattle.dns_read.proofs.RecordSearchLemmas.{some_first}
use Rattle.dns_read.proofs.message.Message.contains_answer.Goals as goal

pub returns-in-Ok : goal.returns-in-Ok
returns-in-Ok g c =
    let b = message_octets c.args.self.now in
    let layouts = g.D.ParseRecordData.layout in
    some_first (typed_result g.D.RecordData.rtype_of g.D.RecordData.parts) c.next.result c.is_some.result
    (typed_left layouts c.limit_to.result) (limited layouts (records_of Answer b)) (typed_left layouts c.next.new.self) c.is_some.ensures
    (c.limit_to.ensures.left ∙ ap (limited layouts) (begins_reading Answer b c.in-Ok.section c.in-Ok.ensures.starts)) c.next.ensures.steps

pub returns-in-Err : goal.returns-in-Err
returns-in-Err g c =
    let b = message_octets c.args.self.now in
    (λ some. absurd (cc), λ any. absurd (any (ap (limited g.D.ParseRecordData.layout) (no_reading Answer b (no_answers b (fault_of c.in-Err.field-0) c.in-Err.ensures.fault)))))
