use Rattle.std.proofs.Common.{arith}
use Rattle.dns_name.specs.NameReading.{name_labels}
use Rattle.dnsmsg_tool.proofs.CallLemmas.{line_reads, no_line}
use Rattle.dnsmsg_tool.proofs.line.call_of_words.Goals as goal

pub returns-in_default : goal.returns-in_default
returns-in_default g c = λ s is. no_line name_labels s.stage s.header c.args.words.now (omega arith)

pub returns : goal.returns
returns g c = λ s is. line_reads name_labels s.stage s.header c.args.words.now c.call_of_verb.result (omega arith) (c.call_of_verb.ensures s is)
