use Rattle.std.proofs.Common.{List, ℕ}
use Rattle.std.proofs.lemmas.Result.{err_from_is_err_and}
use Rattle.dns_name.specs.Parsers.{seen, offset}
use Rattle.dns_item.specs.Items.{RecordEntry}
use Rattle.dns_item.specs.ParsedRecord.{octets_of, parsed_entry}
use Rattle.dns_item.specs.RecordReading.{ReturnsTaken, GivesBackTaken, GivesValueBackTaken}
use Rattle.dns_item.proofs.theory.EntryLemmas.{record_or_fault}
use Rattle.dns_item.proofs.RecordLemmas.{of_read, after_read}
use Rattle.dns_item.proofs.record_reading.Record+ParsedName+D.parse.Goals as goal

pub returns-in_err-parse-clause-gives : goal.returns-in_err-parse-clause-gives
returns-in_err-parse-clause-gives g c q x h =
    absurd ((record_or_fault (seen c.args.parser.now)).not_both (offset c.args.parser.now) q x _ h c.in_err-parse.ensures.0)

pub returns-in_err-parse-clause-back : goal.returns-in_err-parse-clause-back
returns-in_err-parse-clause-back g c q x h =
    absurd ((record_or_fault (seen c.args.parser.now)).not_both (offset c.args.parser.now) q x _ h c.in_err-parse.ensures.0)

pub returns-clause-gives : goal.returns-clause-gives
returns-clause-gives g c q x h =
    let old = c.args.parser.now in
    let r = c.in_ok-parse.field-0 in
    let parses = c.in_ok-parse.ensures in (
      of_read (λ (b : List ℕ) (x : RecordEntry). ReturnsTaken g.D.RecordData.rtype_of g.D.RecordData.parts b x (g.D.ParseRecordData.layout x.rtype) c.into_record.result)
          (seen old) (octets_of r) (offset old) (offset c.parse.new.parser) q (parsed_entry r) x parses.0 parses.2.seen h c.into_record.ensures.returned,
      after_read old c.parse.new.parser q (parsed_entry r) x parses.0 parses.1 h,
    )

pub returns-clause-back : goal.returns-clause-back
returns-clause-back g c q x h =
    let old = c.args.parser.now in
    let r = c.in_ok-parse.field-0 in
    let parses = c.in_ok-parse.ensures in
    of_read (λ (b : List ℕ) (x : RecordEntry). GivesBackTaken g.D.RecordData.rtype_of g.D.RecordData.parts b x (g.D.ParseRecordData.layout x.rtype) c.into_record.result)
    (seen old) (octets_of r) (offset old) (offset c.parse.new.parser) q (parsed_entry r) x parses.0 parses.2.seen h c.into_record.ensures.back

pub returns-in_err-parse-clause-value : goal.returns-in_err-parse-clause-value
returns-in_err-parse-clause-value g c q x h =
    absurd ((record_or_fault (seen c.args.parser.now)).not_both (offset c.args.parser.now) q x _ h c.in_err-parse.ensures.0)

pub returns-clause-value : goal.returns-clause-value
returns-clause-value g c q x h =
    let old = c.args.parser.now in
    let r = c.in_ok-parse.field-0 in
    let parses = c.in_ok-parse.ensures in
    of_read (λ (b : List ℕ) (x : RecordEntry). GivesValueBackTaken g.D.RecordData.rtype_of g.D.RecordData.parts b x c.into_record.result)
    (seen old) (octets_of r) (offset old) (offset c.parse.new.parser) q (parsed_entry r) x parses.0 parses.2.seen h c.into_record.ensures.value

pub returns-in_err-parse-clause-fault : goal.returns-in_err-parse-clause-fault
returns-in_err-parse-clause-fault g c f h =
    let p = err_from_is_err_and c.from_residual.result c.from_residual.ensures.1 in
    let e = c.in_err-parse.ensures in
    (rw (p.1, p.2) ((record_or_fault (seen c.args.parser.now)).one_fault (offset c.args.parser.now) _ f e.0 h), e.1)

pub returns-clause-fault : goal.returns-clause-fault
returns-clause-fault g c f h =
    absurd ((record_or_fault (seen c.args.parser.now)).not_both (offset c.args.parser.now) _ _ f c.in_ok-parse.ensures.0 h)
