use Rattle.dns_item.proofs.theory.QuestionEntryLemmas as questions
use Rattle.dns_item.proofs.theory.EntryLemmas as entries
use Rattle.dns_item.proofs.laws.one_entry_or_fault.Goals as goal

pub returns : goal.returns
returns c = record { questions = questions.question_or_fault; headers = entries.header_or_fault; records = entries.record_or_fault }
