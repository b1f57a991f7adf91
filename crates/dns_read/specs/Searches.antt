-- Searches in the questions of a message, as functions of their reading. RFC 1035 section 4.1.
--
-- `b` is the octets of the message.
use Rattle.std.specs.Prelude.{◌≡◌, ℕ, ◌⊎◌, Bool, ◌&&◌, ◌==◌, List, [], ◌∷◌, take, Option, Some, None, option_map, Result, Ok, Err}
use Rattle.dns_name.specs.Names.{Fault}
use Rattle.dns_code.specs.Header.{fields_in}
use Rattle.dns_code.specs.HeaderSection.{header_size}
use Rattle.dns_item.specs.Questions.{QuestionItem}
use Rattle.dns_read.specs.QuestionsFrom.{questions_from}
use Rattle.dns_read.specs.SameQuestions.{same_readings}
use Rattle.dns_read.specs.Sections.{question_count}

-- the reading of the question section
abbrev pub questions_of : List ℕ → List (Result QuestionItem Fault)
questions_of b = questions_from b (question_count b) header_size

-- the first item of a reading
abbrev pub first_item : {X : Type 0} → List (Result X Fault) → Option (Result X Fault)
first_item [] = None
first_item (x ∷ xs) = Some x

-- the first item of a reading, if it isn't a fault
abbrev pub first_value : {X : Type 0} → List (Result X Fault) → Option X
first_value [] = None
first_value (Ok x ∷ xs) = Some x
first_value (Err f ∷ xs) = None

-- the first question
abbrev pub asked_first : List ℕ → Option QuestionItem
asked_first b = first_value (questions_of b)

-- the QTYPE of the first question
abbrev pub asked_type : List ℕ → Option ℕ
asked_type b = option_map (λ (q : QuestionItem). q.rtype) (asked_first b)

-- the first question asks for a zone transfer: IXFR (RFC 1995 section 3) or AXFR (RFC 5936 section 2)
abbrev pub AsksForTransfer : List ℕ → Type 0
AsksForTransfer b = (asked_type b ≡ Some 251) ⊎ (asked_type b ≡ Some 252)

-- whether message `b` is a response to `query`: QR is set, the IDs and the QDCOUNTs are equal, and so are the questions
abbrev pub answers_query : List ℕ → List ℕ → Bool
answers_query b query =
    let header = fields_in (take 4 b) in
    header.qr && (header.id == (fields_in (take 4 query)).id) && (question_count b == question_count query) && same_readings (questions_of b) (questions_of query)
