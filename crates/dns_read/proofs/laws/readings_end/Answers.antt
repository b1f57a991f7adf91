use Rattle.dns_read.proofs.theory.ReadingLemmas.{readings_of_questions_end, readings_of_records_end}
use Rattle.dns_read.proofs.laws.readings_end.Goals as goal

pub returns : goal.returns
returns c = record { questions = readings_of_questions_end; records = readings_of_records_end }
