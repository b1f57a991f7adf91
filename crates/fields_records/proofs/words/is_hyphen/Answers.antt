use Rattle.std.proofs.Common.{arith}
use Rattle.fields_records.proofs.HyphenWords.{one_hyphen, others_no_hyphen}
use Rattle.fields_records.proofs.words.is_hyphen.Goals as goal

pub returns-in-len1 : goal.returns-in-len1
returns-in-len1 c = one_hyphen c.args.words.now _ c.eq.result c.in-len1.len_at_least c.in-len1.len_below c.eq.ensures

pub returns-in_default : goal.returns-in_default
returns-in_default c = others_no_hyphen c.args.words.now (λ one. omega (arith, one))
