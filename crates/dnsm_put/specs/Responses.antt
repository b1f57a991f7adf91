-- The response to a query, and why none begins. RFC 1035 section 4.1.
use Rattle.std.specs.Prelude.{◌≡◌, ◌≢◌, ℕ, ◌+◌, ◌%◌, ◌<◌, List, length, take, true, false}
use Rattle.dns_name.specs.Names.{fault_of, uncompressed}
use Rattle.dns_code.specs.Header.{HeaderFields, fields_in}
use Rattle.dns_code.specs.HeaderSection.{header_size}
use Rattle.dns_item.specs.Questions.{QuestionItem, ReadsQuestion, QuestionFaultAt}
use Rattle.dns_read.specs.Sections.{question_count}
use Rattle.dns_build.specs.State.{State, with_question, up_to, InBuilder}
use Rattle.dnsm_status.specs.Codes.{IsReported, ReportsFault, number_of}
use Rattle.dnsm_status.specs.declared.code.CallError.{CallError}
use Rattle.dnsm_status.specs.declared.code.CallError.TheVariants as faults
use Rattle.dnsm_read.specs.Asked.{HoldsQuery}
use Rattle.dnsm_put.specs.declared.draft.Draft.{Draft}
use Rattle.dnsm_put.specs.declared.response.ResponseError.{ResponseError}
use Rattle.dnsm_put.specs.declared.response.ResponseError.TheVariants.{ShortInput, IsResponse, NoQuestion, BadQuestion, NoRoom}
use Rattle.dnsm_put.specs.Drafts.{IsDraftOf, header_of}

-- a query, of any opcode, with exactly one question, which can be read
pub record AsksIn (b : List ℕ) (x : QuestionItem) : Type 0 where
  pub query : HoldsQuery b
  pub one : question_count b ≡ 1
  pub after : ℕ
  pub reads : ReadsQuestion b header_size after x

-- the header of the response to a query with the header `asked`: its ID, opcode, RD and CD, QR, the low four bits of the rcode, and no other bit. RFC 1035 section 4.1.1; CD: RFC 4035 section 3.2.2
abbrev pub response_header : HeaderFields → ℕ → HeaderFields
response_header asked rcode = record asked { qr = true; aa = false; tc = false; ra = false; z = false; ad = false; rcode = rcode % 16 }

-- The draft is the response to the query in `b`, with the query's question and no other item.
pub record BeginsResponse (b : List ℕ) (rcode : ℕ) (out : List ℕ) (d : Draft) : Type 0 where
  pub asked : QuestionItem
  pub asks : AsksIn b asked
  pub holds : (s : State) → IsDraftOf out d (with_question asked (up_to InBuilder s))
  pub header : header_of d ≡ response_header (fields_in (take 4 b)) rcode

-- the octets of a header section and a question with its name uncompressed
abbrev pub asked_size : QuestionItem → ℕ
asked_size x = header_size + length (uncompressed x.name) + 4

-- The error is a reason not to begin a response to the octets `b` in a buffer of n octets.
abbrev pub IsReason : List ℕ → ℕ → ResponseError → Type 0
IsReason b n ShortInput = length b < header_size
IsReason b n IsResponse = (fields_in (take 4 b)).qr ≡ true
IsReason b n NoQuestion = question_count b ≢ 1
IsReason b n (BadQuestion error) = QuestionFaultAt b header_size (fault_of error)
IsReason b n NoRoom = (x : QuestionItem) × AsksIn b x × (n < asked_size x)

-- the order in which the reasons are looked at
abbrev pub rank_of : ResponseError → ℕ
rank_of ShortInput = 0
rank_of IsResponse = 1
rank_of NoQuestion = 2
rank_of (BadQuestion error) = 3
rank_of NoRoom = 4

-- The error is the first reason that applies.
pub record IsUnanswered (b : List ℕ) (n : ℕ) (error : ResponseError) : Type 0 where
  pub reason : IsReason b n error
  pub first : (other : ResponseError) → rank_of other < rank_of error → IsReason b n other → ⊥

-- the fault that reports a reason
abbrev pub ReportsReason : ResponseError → CallError → Type 0
ReportsReason ShortInput fault = fault ≡ faults.ShortInput
ReportsReason IsResponse fault = fault ≡ faults.IsResponse
ReportsReason NoQuestion fault = fault ≡ faults.NoQuestion
ReportsReason (BadQuestion error) fault = IsReported (fault_of error) → ReportsFault (fault_of error) (number_of fault)
ReportsReason NoRoom fault = fault ≡ faults.NoRoom

-- the number that reports a reason: for a question that can't be read, that of the fault there
abbrev pub ReportsNumber : ResponseError → ℕ → Type 0
ReportsNumber ShortInput n = n ≡ number_of faults.ShortInput
ReportsNumber IsResponse n = n ≡ number_of faults.IsResponse
ReportsNumber NoQuestion n = n ≡ number_of faults.NoQuestion
ReportsNumber (BadQuestion error) n = ReportsFault (fault_of error) n
ReportsNumber NoRoom n = n ≡ number_of faults.NoRoom
