use Rattle.std.proofs.Common.{arith}
use Rattle.dns_item.specs.ParsedRecord.{octets_of, parsed_entry}
use Rattle.dns_item.proofs.RecordReadingLemmas.{gives_back_taken, gives_value_back_taken}
use Rattle.dns_item.proofs.parsed_record.ParsedRecord.to_record.Goals as goal

pub returns-clause-back : goal.returns-clause-back
returns-clause-back g c =
    let r = c.args.self.now in
    gives_back_taken g.D.RecordData.rtype_of g.D.RecordData.parts (octets_of r) (parsed_entry r) (omega arith)
    (g.D.ParseRecordData.layout (parsed_entry r).rtype) c.parse_into_record.result c.parse_into_record.ensures.returned

pub returns-clause-value : goal.returns-clause-value
returns-clause-value g c =
    let r = c.args.self.now in
    gives_value_back_taken g.D.RecordData.rtype_of g.D.RecordData.parts (octets_of r) (parsed_entry r) g.D.ParseRecordData.layout c.parse_into_record.result
    (g.met.D.ParseRecordData c.lifetimes (assumption c)).laid_out (returns-clause-back g c)
