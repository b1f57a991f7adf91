use Rattle.std.proofs.Common.{◌∙◌, ap, sym, subst, List}
use Rattle.std.specs.Prelude.{Result, Ok}
use Rattle.dns_name.specs.Names.{Fault}
use Rattle.dns_item.specs.ParsedRecord.{EncodedRecord}
use Rattle.dns_read.specs.Message.{message_octets}
use Rattle.dns_read.specs.RecordSection.{BeginsSection}
use Rattle.dns_read.specs.declared.record_section.RecordSection.{RecordSection}
use Rattle.dns_read.specs.declared.section.Section.TheVariants.{Answer}
use Rattle.dns_read.proofs.theory.SectionStartLemmas.{begins_reading}
use Rattle.dns_transfer.specs.Steps.{run_of}
use Rattle.dns_transfer.specs.Transfer.{asked_of, state_of}
use Rattle.dns_transfer.proofs.StepLemmas.{left_by}
use Rattle.dns_transfer.proofs.transfer.Transfer.take.Goals as goal

pub returns-in-Ok-clause-takes : goal.returns-in-Ok-clause-takes
returns-in-Ok-clause-takes g c =
    let asked = asked_of c.args.self in
    let state = state_of c.args.self in
    let b = message_octets c.args.message.now in
    record {
      no_error = c.in-Ok.ensures.no_error;
      asks = c.new.ensures.asked;
      begins = c.new.ensures.state;
      records = subst (λ (cursor : RecordSection). BeginsSection Answer b cursor) (sym c.new.ensures.records) c.in-Ok.ensures.begins;
      left = left_by c.new.result asked c.in-Ok.records (Ok state) c.new.ensures.asked c.new.ensures.records c.new.ensures.state
          ∙ ap (λ (xs : List (Result EncodedRecord Fault)). run_of asked xs state) (begins_reading Answer b c.in-Ok.records c.in-Ok.ensures.begins);
    }
