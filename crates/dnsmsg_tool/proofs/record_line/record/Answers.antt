use Rattle.std.proofs.Common.{arith}
use Rattle.dns_name.specs.NameReading.{name_labels}
use Rattle.dnsmsg_tool.proofs.RecordLemmas.{few_record, record_words}
use Rattle.dnsmsg_tool.proofs.record_line.record.Goals as goal

pub returns-in_default : goal.returns-in_default
returns-in_default c = few_record name_labels c.args.words.now (omega arith)

pub returns : goal.returns
returns c = record_words name_labels c.args.words.now c.record_of.result (omega arith) c.record_of.ensures
