-- `questions_from` gives the readings of questions.
use Rattle.std.proofs.Common.{◌≡◌, ℕ, List}
use Rattle.std.specs.Prelude.{Result}
use Rattle.dns_name.specs.Names.{Fault}
use Rattle.dns_item.specs.Questions.{QuestionItem}
use Rattle.dns_read.specs.Sections.{ReadingQuestions}
use Rattle.dns_read.specs.QuestionsFrom.{questions_from, QuestionsFromAreRead}
use Rattle.dns_read.specs.Unique.{one_reading_of_questions}
use Rattle.dns_read.proofs.theory.ReadingLemmas.{are_readings}

questions_from-reading : (b : List ℕ) (n p : ℕ) → ReadingQuestions b n p (questions_from b n p)
unfolding questions_from
questions_from-reading b n p = ((one_reading_of_questions b).some n p).1

-- The questions from an offset are a reading of them.
pub questions_from_are_read : QuestionsFromAreRead
questions_from_are_read b = are_readings (one_reading_of_questions b) (questions_from b) (questions_from-reading b)

-- Questions have one reading.
pub questions_from-only : (b : List ℕ) (n p : ℕ) (xs : List (Result QuestionItem Fault)) → ReadingQuestions b n p xs → questions_from b n p ≡ xs
questions_from-only b = (questions_from_are_read b).only
