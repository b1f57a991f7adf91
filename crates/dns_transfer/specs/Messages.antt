-- Which messages belong to a transfer: their header and questions. RFC 5936 sections 2.2.1 and 2.2.2, RFC 1035 section 4.1.1.
use Rattle.std.specs.Prelude.{◌≡◌, ℕ, Bool, true, false, ◌==◌, ◌&&◌, if◌then◌else◌, List, [], ◌∷◌, take, Option, Some, None, Result, Ok, Err}
use Rattle.dns_octets.specs.declared.error.ParseError.{ParseError}
use Rattle.dns_name.specs.Names.{Fault, fault_of}
use Rattle.dns_code.specs.Header.{HeaderFields, fields_in}
use Rattle.dns_item.specs.Questions.{QuestionItem}
use Rattle.dns_read.specs.OptSearches.{opt_rcode_of}
use Rattle.dns_read.specs.SameQuestions.{same_question}
use Rattle.dns_read.specs.Searches.{questions_of}
use Rattle.dns_read.specs.Sections.{AnswersFault}
use Rattle.dns_transfer.specs.Asked.{Asked, question_of}
use Rattle.dns_transfer.specs.Errors.{error_of}
use Rattle.dns_transfer.specs.declared.error.TransferError.{TransferError}
use Rattle.dns_transfer.specs.declared.error.TransferError.TheVariants.{Parse, WrongId, NoResponse, Rcode, Truncated, WrongQuestion, AfterEnd}
use Rattle.dns_transfer.specs.declared.grammar.State.{State}
use Rattle.dns_transfer.specs.declared.grammar.State.TheVariants.{Wanted, First, Whole, Removing, Adding, Ended}

-- whether no record was read
abbrev pub is_wanted : State → Bool
is_wanted Wanted = true
is_wanted (First last) = false
is_wanted (Whole last) = false
is_wanted (Removing old last) = false
is_wanted (Adding new last) = false
is_wanted Ended = false

-- whether the transfer has ended
abbrev pub is_ended : State → Bool
is_ended Wanted = false
is_ended (First last) = false
is_ended (Whole last) = false
is_ended (Removing old last) = false
is_ended (Adding new last) = false
is_ended Ended = true

-- The first error of a header, with the message's RCODE, whose higher bits are in its OPT record (RFC 6891 section 6.1.3): the ID isn't the query's; the message is no response to a QUERY; the RCODE
-- isn't NOERROR; the message is truncated.
abbrev pub header_error : ℕ → HeaderFields → ℕ → Option TransferError
header_error id f rcode =
    if f.id == id
    then (if f.qr && (f.opcode == 0) then (if rcode == 0 then (if f.tc then Some Truncated else None) else Some (Rcode rcode)) else Some NoResponse)
    else Some WrongId

-- The error of the questions: they are the query's one question, or once a record was read perhaps none. RFC 5936 section 2.2.2.
abbrev pub question_error : Asked → State → List (Result QuestionItem Fault) → Option TransferError
question_error asked state [] = if is_wanted state then Some WrongQuestion else None
question_error asked state (Err f ∷ xs) = Some (Parse (error_of f))
question_error asked state (Ok q ∷ []) = if same_question q (question_of asked) then None else Some WrongQuestion
question_error asked state (Ok q ∷ x ∷ xs) = Some WrongQuestion

-- the first of two errors
abbrev pub first_error : Option TransferError → Option TransferError → Option TransferError
first_error (Some e) later = Some e
first_error None later = later

-- the first error of a message before its answer section, if it has one
abbrev pub message_error : Asked → State → HeaderFields → ℕ → List (Result QuestionItem Fault) → Option TransferError
message_error asked state f rcode questions =
    if is_ended state then Some AfterEnd else first_error (header_error asked.id f rcode) (question_error asked state questions)

-- the same of the octets of a message
abbrev pub error_before_answers : Asked → State → List ℕ → Option TransferError
error_before_answers asked state b = message_error asked state (fields_in (take 4 b)) (opt_rcode_of b) (questions_of b)

-- Why nothing is taken from a message: it has an error before its answer section, or that has no start.
pub data RefusesMessage (asked : Asked) (state : State) (b : List ℕ) : TransferError → Type 0 where
  before : {e : TransferError} → error_before_answers asked state b ≡ Some e → RefusesMessage asked state b e
  no_start : {e : ParseError} → error_before_answers asked state b ≡ None → AnswersFault b (fault_of e) → RefusesMessage asked state b (Parse e)

-- what a check returns, by the error that there is
abbrev pub Reports : Result (Unit {0}) TransferError → Option TransferError → Type 0
Reports (Ok _) found = found ≡ None
Reports (Err e) found = found ≡ Some e
