use Rattle.fields_records.proofs.CountLemmas.{sized_count}
use Rattle.fields_records.proofs.extent.word_count.Goals as goal

pub returns-in-OneOrTwo : goal.returns-in-OneOrTwo
returns-in-OneOrTwo c = sized_count c.args.kind c.args.words.now c.sized_count.result c.in-OneOrTwo.ensures c.sized_count.ensures
