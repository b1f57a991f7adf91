-- In all octets each section has one reading, and one start or one fault. RFC 1035 section 4.1.
use Rattle.std.specs.Prelude.{◌≡◌, ℕ, suc, ◌≤◌, ◌⊎◌, List, [], ◌∷◌, ◌++◌, length, Result, Ok, Err}
use Rattle.dns_name.specs.Names.{Fault, EndsOrFaults}
use Rattle.dns_item.specs.Questions.{SkipsQuestion, ReadsQuestion, QuestionFaultAt, QuestionSkipFaultAt}
use Rattle.dns_item.specs.Items.{SkipsRecord, ReadsRecord, RecordFaultAt, RecordSkipFaultAt}
use Rattle.dns_read.specs.Reading.{Skipped, StopsSkipping, Reading}
use Rattle.dns_read.specs.Sections.{AnswersStart, AuthoritiesStart, AdditionalsStart, AnswersFault, AuthoritiesFault, AdditionalsFault}

-- from each offset there is exactly one reading of at most n entries
pub record OneReading {X : Type 0} (Reads : ℕ → ℕ → X → Type 0) (FaultOf : ℕ → Fault → Type 0) : Type 0 where
  pub some : (n p : ℕ) → (xs : List (Result X Fault)) × Reading Reads FaultOf n p xs
  pub one : (n p : ℕ) (xs ys : List (Result X Fault)) → Reading Reads FaultOf n p xs → Reading Reads FaultOf n p ys → xs ≡ ys

-- there is exactly one reading of questions
abbrev pub OneReadingOfQuestions : Type 0
OneReadingOfQuestions = (b : List ℕ) → OneReading (ReadsQuestion b) (QuestionFaultAt b)

-- there is exactly one reading of records
abbrev pub OneReadingOfRecords : Type 0
OneReadingOfRecords = (b : List ℕ) → OneReading (ReadsRecord b) (RecordFaultAt b)

-- `from n p` is the one reading of at most n entries from offset p. It is empty if n is 0; else it begins with an entry that can be read, or is a fault alone.
pub record AreReadings {X : Type 0} (Reads : ℕ → ℕ → X → Type 0) (FaultOf : ℕ → Fault → Type 0) (from : ℕ → ℕ → List (Result X Fault)) : Type 0 where
  pub reading : (n p : ℕ) → Reading Reads FaultOf n p (from n p)
  pub only : (n p : ℕ) (xs : List (Result X Fault)) → Reading Reads FaultOf n p xs → from n p ≡ xs
  pub none : (p : ℕ) → from 0 p ≡ []
  pub entry : (n p q : ℕ) (x : X) → Reads p q x → from (suc n) p ≡ Ok x ∷ from n q
  pub stop : (n p : ℕ) (f : Fault) → FaultOf p f → from (suc n) p ≡ Err f ∷ []

-- a reading of at most n entries has at most n items, and a fault is its last item
pub record ReadingsEnd {X : Type 0} (Reads : ℕ → ℕ → X → Type 0) (FaultOf : ℕ → Fault → Type 0) : Type 0 where
  pub short : (n p : ℕ) (xs : List (Result X Fault)) → Reading Reads FaultOf n p xs → length xs ≤ n
  pub last : (n p : ℕ) (xs before after : List (Result X Fault)) (f : Fault) → Reading Reads FaultOf n p xs → xs ≡ before ++ Err f ∷ after → after ≡ []

-- `ReadingsEnd` for questions
abbrev pub ReadingsOfQuestionsEnd : Type 0
ReadingsOfQuestionsEnd = (b : List ℕ) → ReadingsEnd (ReadsQuestion b) (QuestionFaultAt b)

-- `ReadingsEnd` for records
abbrev pub ReadingsOfRecordsEnd : Type 0
ReadingsOfRecordsEnd = (b : List ℕ) → ReadingsEnd (ReadsRecord b) (RecordFaultAt b)

-- From each offset, n questions are skipped to exactly one end, or one of them can't be skipped, with exactly one fault; never both.
abbrev pub QuestionsSkipOrStop : Type 0
QuestionsSkipOrStop = (b : List ℕ) (n : ℕ) → EndsOrFaults (Skipped (SkipsQuestion b) n) (StopsSkipping (SkipsQuestion b) (QuestionSkipFaultAt b) n)

-- From each offset, n records are skipped to exactly one end, or one of them can't be skipped, with exactly one fault; never both.
abbrev pub RecordsSkipOrStop : Type 0
RecordsSkipOrStop = (b : List ℕ) (n : ℕ) → EndsOrFaults (Skipped (SkipsRecord b) n) (StopsSkipping (SkipsRecord b) (RecordSkipFaultAt b) n)

-- each section starts at one offset at most
pub record OneStart : Type 0 where
  pub answers : (b : List ℕ) (p q : ℕ) → AnswersStart b p → AnswersStart b q → p ≡ q
  pub authorities : (b : List ℕ) (p q : ℕ) → AuthoritiesStart b p → AuthoritiesStart b q → p ≡ q
  pub additionals : (b : List ℕ) (p q : ℕ) → AdditionalsStart b p → AdditionalsStart b q → p ≡ q

-- there is exactly one start or exactly one fault, never both
pub record StartsOrFaults (Start : ℕ → Type 0) (FaultOf : Fault → Type 0) : Type 0 where
  pub some : ((p : ℕ) × Start p) ⊎ ((f : Fault) × FaultOf f)
  pub one : (p q : ℕ) → Start p → Start q → p ≡ q
  pub not_both : (p : ℕ) (f : Fault) → Start p → FaultOf f → ⊥
  pub one_fault : (f g : Fault) → FaultOf f → FaultOf g → f ≡ g

-- each section has exactly one start or exactly one fault
pub record StartOrFault : Type 0 where
  pub answers : (b : List ℕ) → StartsOrFaults (AnswersStart b) (AnswersFault b)
  pub authorities : (b : List ℕ) → StartsOrFaults (AuthoritiesStart b) (AuthoritiesFault b)
  pub additionals : (b : List ℕ) → StartsOrFaults (AdditionalsStart b) (AdditionalsFault b)
