use Rattle.dns_item.proofs.theory.QuestionItemLemmas as question_items
use Rattle.dns_item.proofs.theory.ItemLemmas as items
use Rattle.dns_item.proofs.laws.items_read_back.Goals as goal

pub returns : goal.returns
returns c = record { questions_grow = question_items.questions_grow; records_grow = items.records_grow; questions = question_items.questions_read_back; records = items.records_read_back }
