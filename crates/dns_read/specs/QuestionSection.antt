-- What a cursor over the questions of a message has left, and how it moves. RFC 1035 sections 4.1 and 4.1.2.
use Rattle.std.specs.Iterator.{YieldsFirstBy}
use Rattle.std.specs.Prelude.{◌≡◌, ℕ, List, Option, Some, None, Result, Ok, Err}
use Rattle.dns_name.specs.Names.{Fault, fault_of}
use Rattle.dns_name.specs.Parsers.{seen, offset}
use Rattle.dns_octets.specs.declared.error.ParseError.{ParseError}
use Rattle.dns_name.specs.declared.parsed_name.ParsedName.{ParsedName}
use Rattle.dns_code.specs.HeaderSection.{header_size}
use Rattle.dns_item.specs.Questions.{ReadsQuestion, QuestionFaultAt, QuestionItem}
use Rattle.dns_item.specs.Question.{parsed_question}
use Rattle.dns_item.specs.declared.question.Question.{Question}
use Rattle.dns_read.specs.QuestionsFrom.{questions_from}
use Rattle.dns_read.specs.Sections.{question_count}
use Rattle.dns_read.specs.Skipping.{items_left, CountsDown}
use Rattle.dns_read.specs.declared.question_section.QuestionSection.{QuestionSection}

-- the octets of the message
abbrev pub octets_of : QuestionSection → List ℕ
octets_of section = seen section.parser

-- the offset after the questions that were yielded
abbrev pub position : QuestionSection → ℕ
position section = offset section.parser

-- the count of questions that may still come, or the error that was yielded
abbrev pub to_come : QuestionSection → Result ℕ ParseError
to_come section = section.left

-- what is left to yield
abbrev pub questions_left : QuestionSection → List (Result QuestionItem Fault)
questions_left section = items_left (λ n. questions_from (octets_of section) n (position section)) (to_come section)

-- what a result of the cursor says: a question, or a fault
abbrev pub question_result : Result (Question ParsedName) ParseError → Result QuestionItem Fault
question_result (Ok question) = Ok (parsed_question question)
question_result (Err e) = Err (fault_of e)

-- The cursor moves past a question that it yielded. It doesn't move at a question that can't be read, nor at the end.
abbrev pub MovesPastQuestion : QuestionSection → QuestionSection → Option (Result (Question ParsedName) ParseError) → Type 0
MovesPastQuestion old new (Some (Ok question)) = ReadsQuestion (octets_of old) (position old) (position new) (parsed_question question)
MovesPastQuestion old new (Some (Err e)) = QuestionFaultAt (octets_of old) (position old) (fault_of e) × (position new ≡ position old)
MovesPastQuestion old new None = position new ≡ position old

-- what a call of `next` returns, and the cursor after it
pub record GivesNext (old : QuestionSection) (result : Option (Result (Question ParsedName) ParseError)) (new : QuestionSection) : Type 0 where
  pub steps : YieldsFirstBy question_result questions_left old result new
  pub moves : MovesPastQuestion old new result
  pub counts : CountsDown (to_come old) (to_come new) result
  pub octets : octets_of new ≡ octets_of old

-- a cursor at the start of the question section of `b`, with all of its questions to come
pub record BeginsQuestions (b : List ℕ) (section : QuestionSection) : Type 0 where
  pub octets : octets_of section ≡ b
  pub start : position section ≡ header_size
  pub count : to_come section ≡ Ok (question_count b)
  pub questions : questions_left section ≡ questions_from b (question_count b) header_size
