use Rattle.fields_records.proofs.OneData.{one_parts}
use Rattle.fields_records.proofs.OneRecord.{one_record}
use Rattle.fields_records.proofs.laws.words_represent_one.Goals as goal

pub returns-clause-rdata : goal.returns-clause-rdata
returns-clause-rdata c = one_parts

pub returns-clause-records : goal.returns-clause-records
returns-clause-records c = one_record
