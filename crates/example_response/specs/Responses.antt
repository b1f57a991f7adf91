-- Responses to queries about a zone. RFC 1035 section 4.1.1, RFC 2181 section 9, RFC 6891 section 6.1.
use Rattle.std.specs.Prelude.{◌≡◌, ◌≤◌, ◌<◌, ◌+◌, ℕ, Bool, false, List, [], length, Option, Some, None, option_map, Result, Ok, Err}
use Rattle.dns_message.specs.Builders.{Gathered, InAdditional, InAnswer, InEach, IsMessageOf, Reserving, State, fitting, fresh, header_to, opt_size, opt_to, readable_questions, size_after, with_limit}
use Rattle.dns_message.specs.Builders.{with_opt}
use Rattle.dns_message.specs.Questions.{QuestionItem}
use Rattle.dns_message.specs.Targets.{Tree}
use Rattle.dns_message.specs.declared.builder.PushError.{PushError}
use Rattle.dns_message.specs.declared.builder.PushError.TheVariants.{CountOverflow, LimitExceeded, ShortBuf, OutOfMemory}
use Rattle.example_response.specs.Answers.{StepItem, is_authoritative, most_names, rcode_of, steps_from}
use Rattle.example_response.specs.Filling.{filled}
use Rattle.example_response.specs.Questions.{question_or_rcode}
use Rattle.example_response.specs.declared.zone.Zone.{Zone}

-- Which steps answer a question.

-- the steps of the answer to a question
abbrev pub steps_of : Zone → Result QuestionItem ℕ → List StepItem
steps_of zone (Ok question) = steps_from zone question.rtype (most_names question.rtype) [] (Some question.name)
steps_of zone (Err rcode) = []

-- the rcode of the response
abbrev pub rcode_for : Zone → Result QuestionItem ℕ → ℕ
rcode_for zone (Ok question) = rcode_of (steps_of zone (Ok question))
rcode_for zone (Err rcode) = rcode

-- How a response begins.

-- the number of octets of a state's message
abbrev pub size : State → ℕ
size = size_after Tree (λ s. s)

-- a response without records: the query's ID, opcode, RD and readable questions, QR, an rcode and AA
abbrev pub started : ℕ → Bool → ℕ → List ℕ → State
started rcode aa limit query = record fresh {
  stage = InAnswer;
  header = record (header_to rcode query) { aa = aa; cd = false };
  limit = limit;
  questions = readable_questions query;
}

-- an OPT record with our UDP payload size
abbrev pub own_opt : Gathered → Gathered
own_opt g = record g { fields = record g.fields { udp_payload_size = 1232 } }

-- the OPT record of a response, if the query has one (RFC 6891 section 6.1.1)
abbrev pub opt_for : ℕ → List ℕ → Option Gathered
opt_for rcode query = option_map own_opt (opt_to rcode query)

-- the octets that are reserved for it
abbrev pub reserved_for : Option Gathered → ℕ
reserved_for None = 0
reserved_for (Some g) = 11

-- How a response ends.

-- with the OPT record, if there is one
abbrev pub with_own_opt : Option Gathered → State → State
with_own_opt None s = s
with_own_opt (Some g) s = with_opt g s

abbrev pub size_of_opt : Option Gathered → ℕ
size_of_opt None = 0
size_of_opt (Some g) = opt_size g

-- the limit of a builder without its reservation
abbrev pub whole_limit : Reserving → ℕ
whole_limit builder = builder.built.limit + builder.reserved

-- the octets are a message with the items of a builder and the OPT record, within the limit
abbrev pub IsEnded : Reserving → Option Gathered → List ℕ → Type 0
IsEnded builder opt b = InEach InAdditional Tree builder.built (λ s. IsMessageOf Tree (with_own_opt opt (with_limit (whole_limit builder) s)) b × (length b ≤ whole_limit builder))

-- an OPT record within the reserved octets is refused only if an allocation fails, in a message of at most 65,535 octets
abbrev pub IsEndedBy : Reserving → Option Gathered → PushError → Type 0
IsEndedBy builder opt e = InEach InAdditional Tree builder.built (λ s. size_of_opt opt ≤ builder.reserved → whole_limit builder ≤ 65535 → e ≡ OutOfMemory)

-- The whole response.

-- the response to a query with an rcode and the records of these steps
abbrev pub answer_to : Zone → ℕ → List StepItem → ℕ → List ℕ → State
answer_to zone rcode steps limit query =
    let opt = opt_for rcode query in
    let reserved = reserved_for opt in
    with_own_opt opt (with_limit limit (filled reserved zone steps (fitting limit reserved (started rcode (is_authoritative steps) limit query))))

-- The octets are at most `limit`, those of the response, and read back as it.
pub record IsAnswered (zone : Zone) (rcode : ℕ) (steps : List StepItem) (limit : ℕ) (query b : List ℕ) : Type 0 where
  pub short : length b ≤ limit
  pub message : IsMessageOf Tree (answer_to zone rcode steps limit query) b

-- The response to a query about a zone.
abbrev pub IsResponse : Zone → ℕ → List ℕ → List ℕ → Type 0
IsResponse zone limit query b = let question = question_or_rcode query in IsAnswered zone (rcode_for zone question) (steps_of zone question) limit query b

-- Why a query gets no response: an allocation failed, or its questions alone, with the OPT record, are too long.
abbrev pub IsReasonFor : ℕ → Bool → ℕ → List ℕ → PushError → Type 0
IsReasonFor rcode aa limit query OutOfMemory = Unit {0}
IsReasonFor rcode aa limit query LimitExceeded = limit < size (started rcode aa limit query) + reserved_for (opt_for rcode query)
IsReasonFor rcode aa limit query ShortBuf = ⊥
IsReasonFor rcode aa limit query CountOverflow = ⊥

abbrev pub IsReason : Zone → ℕ → List ℕ → PushError → Type 0
IsReason zone limit query = let question = question_or_rcode query in IsReasonFor (rcode_for zone question) (is_authoritative (steps_of zone question)) limit query
