-- Answers from a table of records that are no longer than the client accepts. RFC 1035 sections 4.1 and 4.2.1, RFC 6891 section 6.2.
use Rattle.std.specs.Prelude.{◌≡◌, ◌<◌, ◌==◌, ◌&&◌, nat_le, if◌then◌else◌, ℕ, Bool, List, ◌++◌, length, filter, max, Option, Some, None}
use Rattle.dns_message.specs.Names.{names_equal}
use Rattle.dns_message.specs.Targets.{Plain}
use Rattle.dns_message.specs.Headers.{fields_in, header_size}
use Rattle.dns_message.specs.Questions.{QuestionItem}
use Rattle.dns_message.specs.Records.{RecordItem, OptItem}
use Rattle.dns_message.specs.Messages.{opt_of}
use Rattle.dns_message.specs.Builders.{answer_header, readable_questions, ReadsBack, fresh, size_after, InAnswer, State, encode, tc_rewound}
use Rattle.dns_message.specs.declared.builder.PushError.TheVariants.{CountOverflow, LimitExceeded, ShortBuf, OutOfMemory}
use Rattle.example_answer.specs.declared.answering.NoAnswer.{NoAnswer}
use Rattle.example_answer.specs.declared.answering.NoAnswer.TheVariants.{ShortQuery, Refused}

-- The UDP payload size of an OPT record, or 512 if there is none. Less than 512 counts as 512: RFC 6891 section 6.2.3.
abbrev pub size_said : Option OptItem → ℕ
size_said None = 512
size_said (Some opt) = max 512 opt.fields.udp_payload_size

-- the number of octets that the client of a query accepts
abbrev pub payload_size : List ℕ → ℕ
payload_size query = size_said (opt_of query)

-- whether a record matches a question: equal names, ignoring ASCII case, and equal type and class
abbrev pub is_asked : QuestionItem → RecordItem → Bool
is_asked asked x = names_equal x.owner asked.name && (x.rtype == asked.rtype) && (x.class == asked.class)

-- the records of a table that match a question, in order
abbrev pub asked_records : QuestionItem → List RecordItem → List RecordItem
asked_records asked table = filter (is_asked asked) table

-- a state with these records appended to its answers
abbrev pub with_answers : List RecordItem → State → State
with_answers xs s = record s { answers = s.answers ++ xs }

-- the number of octets of a state's message
abbrev pub size : State → ℕ
size s = size_after Plain (λ t. t) s

-- All of these records are appended to the answers if the message then is within its limit. Otherwise the answer section is emptied, and TC is set. RFC 1035 section 4.1.1.
abbrev pub all_or_none : List RecordItem → State → State
all_or_none xs s = if nat_le (size (with_answers xs s)) s.limit then with_answers xs s else tc_rewound InAnswer s

-- A reply to a query, without items: the query's ID, opcode and RD, QR, an rcode, and the limit that the client accepts. RFC 1035 section 4.1.1.
abbrev pub reply : ℕ → List ℕ → State
reply rcode query = record fresh {
  stage = InAnswer;
  header = answer_header rcode (fields_in query) fresh.header;
  limit = payload_size query;
}

-- the reply with the query's readable questions and the rcode NOERROR
abbrev pub asked_again : List ℕ → State
asked_again query = record (reply 0 query) { questions = readable_questions query }

-- the answer to a question of a query
abbrev pub answer_to : List ℕ → List RecordItem → QuestionItem → State
answer_to query table asked = all_or_none (asked_records asked table) (asked_again query)

-- the reply to a query whose first question can't be read: FORMERR, which is 1. RFC 1035 section 4.1.1.
abbrev pub format_error : List ℕ → State
format_error query = reply 1 query

-- the octets are the message of a state, and read back as that state
pub record IsMessage (s : State) (b : List ℕ) : Type 0 where
  pub octets : b ≡ (encode Plain s).octets
  pub reads_back : ReadsBack s b

-- Why a query has no answer: its header section is incomplete, an allocation failed, or the questions alone exceed what the client accepts.
abbrev pub HasNoAnswer : List ℕ → NoAnswer → Type 0
HasNoAnswer query ShortQuery = length query < header_size
HasNoAnswer query (Refused OutOfMemory) = Unit {0}
HasNoAnswer query (Refused LimitExceeded) = payload_size query < size (asked_again query)
HasNoAnswer query (Refused ShortBuf) = ⊥
HasNoAnswer query (Refused CountOverflow) = ⊥
