-- The reading of questions as a function. RFC 1035 section 4.1.
use Rattle.std.specs.Prelude.{ℕ, List, Result}
use Rattle.dns_name.specs.Names.{Fault}
use Rattle.dns_item.specs.Questions.{ReadsQuestion, QuestionFaultAt, QuestionItem}
use Rattle.dns_read.specs.Readings.{AreReadings}
use Rattle.dns_read.specs.Unique.{one_reading_of_questions}

-- the reading of at most n questions from offset p
unfoldable pub questions_from : List ℕ → ℕ → ℕ → List (Result QuestionItem Fault)
questions_from b n p = ((one_reading_of_questions b).some n p).0

-- `questions_from` is the one reading of questions
abbrev pub QuestionsFromAreRead : Type 0
QuestionsFromAreRead = (b : List ℕ) → AreReadings (ReadsQuestion b) (QuestionFaultAt b) (questions_from b)
