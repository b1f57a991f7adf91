use Rattle.dns_item.proofs.theory.QuestionEntryLemmas as questions
use Rattle.dns_item.proofs.theory.EntryLemmas as entries
use Rattle.dns_item.proofs.laws.skipping_agrees.Goals as goal

pub returns : goal.returns
returns c = record { questions = questions.question_skip_agrees; records = entries.record_skip_agrees }
