use Rattle.dns_item.proofs.theory.QuestionEntryLemmas as questions
use Rattle.dns_item.proofs.theory.EntryLemmas as entries
use Rattle.dns_item.proofs.laws.one_end_or_fault.Goals as goal

pub returns : goal.returns
returns c = record { questions = questions.question_end_or_fault; records = entries.record_end_or_fault }
