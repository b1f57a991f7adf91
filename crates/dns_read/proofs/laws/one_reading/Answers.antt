use Rattle.dns_read.proofs.theory.QuestionsFromLemmas.{questions_from_are_read}
use Rattle.dns_read.proofs.theory.RecordsFromLemmas.{records_from_are_read}
use Rattle.dns_read.specs.Unique.{one_reading_of_questions, one_reading_of_records}
use Rattle.dns_read.proofs.laws.one_reading.Goals as goal

pub returns : goal.returns
returns c = record { questions = one_reading_of_questions; records = one_reading_of_records; questions_from = questions_from_are_read; records_from = records_from_are_read }
