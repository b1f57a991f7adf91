-- How an answer to a message is started: its header and its questions. RFC 1035 section 4.1.
use Rattle.std.specs.Prelude.{◌≡◌, ◌⊎◌, ℕ, Bool, true, List, ◌∷◌, ◌++◌, length, Option, Result, Ok, Err}
use Rattle.std.specs.List.{filter_map}
use Rattle.std.specs.Result.{result_ok}
use Rattle.dns_wire.specs.Encoders.{Rule}
use Rattle.dns_code.specs.Header.{HeaderFields, fields_in}
use Rattle.dns_code.specs.HeaderSection.{header_size}
use Rattle.dns_item.specs.Questions.{QuestionItem}
use Rattle.dns_read.specs.QuestionsFrom.{questions_from}
use Rattle.dns_read.specs.Sections.{question_count}
use Rattle.dns_build.specs.Opt.{with_rcode}
use Rattle.dns_build.specs.BuilderStates.{Built, PushReturns, Represents, size_after}
use Rattle.dns_build.specs.State.{State, InQuestion, InAnswer, move_to, with_header, with_question, with_questions}
use Rattle.dns_build.specs.declared.push_error.PushError.{PushError}

-- the questions of a message up to the first malformed one, whose fault ends the reading
abbrev pub readable_questions : List ℕ → List QuestionItem
readable_questions b = filter_map result_ok (questions_from b (question_count b) header_size)

-- The header of an answer: ID, opcode and RD of the message that is answered, QR set, and the rcode. The other fields are the builder's own. RFC 1035 section 4.1.1.
abbrev pub answer_header : ℕ → HeaderFields → HeaderFields → HeaderFields
answer_header rcode asked own = record own { id = asked.id; qr = true; opcode = asked.opcode; rd = asked.rd; rcode = rcode }

-- the state onto which the questions of an answer are pushed
abbrev pub answering : ℕ → List ℕ → State → State
answering rcode b s = move_to InQuestion (with_header (answer_header rcode (fields_in b) s.header) s)

-- the result of pushing a question onto a state
abbrev pub ReturnsQuestion : Option ℕ → Bool → Rule → QuestionItem → State → Result (Unit {0}) PushError → Type 0
ReturnsQuestion capacity grows rule x s = PushReturns capacity grows s.limit (size_after rule (with_question x) s) (length s.questions)

-- a builder at the answer section represents the state, moved there
abbrev pub RepresentsAnswer : Rule → State → Built → Type 0
RepresentsAnswer rule s b = Represents InAnswer rule (move_to InAnswer s) b

-- the same, with the rcode SERVFAIL, which is 2
abbrev pub IsFailure : Rule → State → Built → Type 0
IsFailure rule s b = RepresentsAnswer rule (with_header (with_rcode 2 s.header) s) b

-- Pushing questions onto the state `s`, over a target with capacity `capacity`, which allocates if `grows`, under the compression rule `rule`.
module _ (capacity : Option ℕ) (grows : Bool) (rule : Rule) (s : State) where
  -- each of these questions can be pushed after those before it
  abbrev pub AreAccepted : List QuestionItem → Type 0
  AreAccepted xs = (before : List QuestionItem) (x : QuestionItem) (after : List QuestionItem) → xs ≡ before ++ x ∷ after
      → ReturnsQuestion capacity grows rule x (with_questions before s) (Ok tt)

  -- the questions `first` can be pushed, and pushing the next one fails
  pub record RefusesAfter (xs first : List QuestionItem) (e : PushError) : Type 0 where
    pub accepted : AreAccepted first
    pub next : QuestionItem
    pub others : List QuestionItem
    pub all : xs ≡ first ++ next ∷ others
    pub refused : ReturnsQuestion capacity grows rule next (with_questions first s) (Err e)

  -- a question builder with all questions, or with those before the one that fails
  abbrev pub Asks : List QuestionItem → Result (Unit {0}) PushError → Built → Type 0
  Asks xs (Ok _) b = AreAccepted xs × Represents InQuestion rule (with_questions xs s) b
  Asks xs (Err e) b = (first : List QuestionItem) × RefusesAfter xs first e × Represents InQuestion rule (with_questions first s) b

  -- an answer builder with all questions, or the error of the one that fails
  abbrev pub GivesAnswer : List QuestionItem → Result Built PushError → Type 0
  GivesAnswer xs (Ok b) = AreAccepted xs × RepresentsAnswer rule (with_questions xs s) b
  GivesAnswer xs (Err e) = (first : List QuestionItem) × RefusesAfter xs first e

  -- `Ok` with an answer builder that has all questions, or `Err` with one that has those before the one that fails, and the rcode SERVFAIL
  abbrev pub GivesEither : List QuestionItem → Result Built Built → Type 0
  GivesEither xs (Ok b) = AreAccepted xs × RepresentsAnswer rule (with_questions xs s) b
  GivesEither xs (Err b) = (e : PushError) × (first : List QuestionItem) × RefusesAfter xs first e × IsFailure rule (with_questions first s) b

  -- an answer builder as in either case of `GivesEither`
  abbrev pub IsEither : List QuestionItem → Built → Type 0
  IsEither xs b = GivesEither xs (Ok b) ⊎ GivesEither xs (Err b)
