-- A message with its TTLs capped. RFC 1035 sections 3.2.1 and 4.1, RFC 6891 section 6.1.1.
use Rattle.std.specs.Prelude.{◌≡◌, ◌==◌, if◌then◌else◌, Bool, not, min, ℕ, List, [], ◌∷◌, map, filter, Option, Some, None, Result, Ok, Err}
use Rattle.std.specs.List.{filter_map}
use Rattle.std.specs.Result.{result_ok}
use Rattle.dns_message.specs.Names.{Fault, fault_of}
use Rattle.dns_message.specs.Targets.{Static}
use Rattle.dns_message.specs.Headers.{fields_in}
use Rattle.dns_message.specs.Records.{RecordItem}
use Rattle.dns_message.specs.Sections.AnyRecordIter.{every}
use Rattle.dns_message.specs.Sections.{limited, records_in, StartFault, StartsAt, record_count}
use Rattle.dns_message.specs.declared.message.Section.{Section}
use Rattle.dns_message.specs.declared.message.Section.TheVariants.{Answer, Authority, Additional}
use Rattle.dns_message.specs.Messages.{questions_of}
use Rattle.dns_message.specs.Builders.{ReadsBack, readable_questions, InAnswer, State, encode, no_limit}
use Rattle.dns_message.specs.declared.builder.CopyRecordsError.{CopyRecordsError}
use Rattle.dns_message.specs.declared.builder.CopyRecordsError.TheVariants.{Parse, Push}
use Rattle.dns_message.specs.declared.builder.PushError.TheVariants.{OutOfMemory}
use Rattle.dns_message.specs.Fields.{type_layout}

-- the first fault of a reading
abbrev pub first_fault : {X : Type 0} → List (Result X Fault) → Option Fault
first_fault [] = None
first_fault (Ok x ∷ xs) = first_fault xs
first_fault (Err f ∷ xs) = Some f

-- the values of a reading
abbrev pub values : {X : Type 0} → List (Result X Fault) → List X
values = filter_map result_ok

-- the records of a section that begins at an offset, with their RDATA
abbrev pub records_at : Section → List ℕ → ℕ → List (Result RecordItem Fault)
records_at section b start = limited (every type_layout) (records_in b (record_count section b) start)

-- A message can be read: its questions, and each section's records with their RDATA.
pub record SectionReads (b : List ℕ) (section : Section) : Type 0 where
  pub start : ℕ
  pub starts : StartsAt section b start
  pub records : first_fault (records_at section b start) ≡ None

pub record MessageReads (b : List ℕ) : Type 0 where
  pub questions : first_fault (questions_of b) ≡ None
  pub answers : SectionReads b Answer
  pub authorities : SectionReads b Authority
  pub additionals : SectionReads b Additional

-- A fault for which a message can't be read: the first among the questions, that for which a section has no start, or the first of a section's records and their RDATA.
pub data HasFault (b : List ℕ) (f : Fault) : Type 0 where
  in_questions : first_fault (questions_of b) ≡ Some f → HasFault b f
  before : (section : Section) → StartFault section b f → HasFault b f
  in_records : (section : Section) (start : ℕ) → StartsAt section b start → first_fault (records_at section b start) ≡ Some f → HasFault b f

-- whether a record may be cached: OPT may not, and its TTL isn't one: RFC 6891 sections 6.1.1 and 6.1.3
abbrev pub is_cached : RecordItem → Bool
is_cached x = not (x.rtype == 41)

-- a record with a TTL of at most `most` seconds
abbrev pub with_ttl_cut : ℕ → RecordItem → RecordItem
with_ttl_cut most x = record x { ttl = min x.ttl most }

-- the records of a section without OPT, in order, each with its TTL capped
pub record CutsSection (most : ℕ) (b : List ℕ) (section : Section) (items : List RecordItem) : Type 0 where
  pub start : ℕ
  pub starts : StartsAt section b start
  pub cut : items ≡ map (with_ttl_cut most) (filter is_cached (values (records_at section b start)))

-- The octets are a message with the header and questions of a readable message, and in each section its records without OPT, with TTLs of at most `most` seconds.
pub record IsCut (most : ℕ) (b new : List ℕ) : Type 0 where
  pub readable : MessageReads b
  pub state : State
  pub octets : new ≡ (encode Static state).octets
  pub reads_back : ReadsBack state new
  pub header : state.header ≡ fields_in b
  pub questions : state.questions ≡ values (questions_of b)
  pub answers : CutsSection most b Answer state.answers
  pub authorities : CutsSection most b Authority state.authorities
  pub additionals : CutsSection most b Additional state.additionals

-- why there is no new message: a fault; or the message can be read, and an allocation failed
abbrev pub IsReason : List ℕ → CopyRecordsError → Type 0
IsReason b (Parse e) = HasFault b (fault_of e)
IsReason b (Push e) = MessageReads b × (e ≡ OutOfMemory)

-- a record with its RDATA, as it is written; none for a fault
abbrev pub cut_answer : ℕ → Result RecordItem Fault → Option RecordItem
cut_answer most (Ok x) = if is_cached x then Some (with_ttl_cut most x) else None
cut_answer most (Err f) = None

-- the state with the header of a message and its questions before the first that can't be read
abbrev pub begun : List ℕ → State
begun b = record {
  stage = InAnswer;
  header = fields_in b;
  limit = no_limit;
  questions = readable_questions b;
  answers = [];
  authorities = [];
  additionals = [];
}
