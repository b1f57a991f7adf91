use Rattle.fields_records.proofs.PrintedDataWords.{line_split}
use Rattle.fields_records.proofs.PrintedFieldWords.{fields_split}
use Rattle.fields_records.proofs.laws.printed_fields_split.Goals as goal

pub returns-clause-fields : goal.returns-clause-fields
returns-clause-fields c = fields_split

pub returns-clause-rdata : goal.returns-clause-rdata
returns-clause-rdata c = line_split c.fields_are_all.ensures
