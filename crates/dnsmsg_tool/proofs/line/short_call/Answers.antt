use Rattle.std.proofs.Common.{arith}
use Rattle.dnsmsg_tool.proofs.CallLemmas.{digits_read, no_short, word_reads}
use Rattle.dnsmsg_tool.proofs.line.short_call.Goals as goal

pub returns-in-empty : goal.returns-in-empty
returns-in-empty g c = λ s is. word_reads s.header c.args.verb.now c.args.words.now c.call_of_word.result (omega arith) c.call_of_word.ensures

pub returns-in-len1 : goal.returns-in-len1
returns-in-len1 g c = λ s is.
    digits_read s.header c.args.verb.now c.args.words.now c.number_call.result c.in-len1.len_at_least c.in-len1.len_below (c.number_call.ensures s is)

pub returns-in_default : goal.returns-in_default
returns-in_default g c = λ s is. no_short s.header c.args.verb.now c.args.words.now c.in_default.len_at_least
