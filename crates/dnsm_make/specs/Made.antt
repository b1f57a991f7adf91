-- Queries and responses that are returned to C, and why there is none. RFC 1035 section 4.1.
use Rattle.std.specs.Prelude.{◌≡◌, ◌≢◌, ◌<◌, ◌≤◌, ◌⊎◌, ℕ, Bool, false, true, List, [], ◌∷◌, length, take, replicate}
use Rattle.dns_name.specs.Names.{Fault, Labels}
use Rattle.dns_name.specs.NameTexts.{SpellsName}
use Rattle.dns_wire.specs.Parts.{Octets}
use Rattle.dns_wire.specs.Encoders.{Plain, Static}
use Rattle.dns_code.specs.Header.{HeaderFields, fields_in}
use Rattle.dns_code.specs.HeaderSection.{header_size}
use Rattle.dns_item.specs.Questions.{QuestionItem, ReadsQuestion, QuestionFaultAt}
use Rattle.dns_item.specs.Items.{RecordItem}
use Rattle.dns_read.specs.Sections.{question_count}
use Rattle.dns_build.specs.State.{State, InQuestion, InAnswer}
use Rattle.dns_build.specs.BuilderStates.{fresh}
use Rattle.dns_build.specs.MessageOf.{IsMessageOf}
use Rattle.dnsm_read.specs.Asked.{HoldsQuery}
use Rattle.dnsm_status.specs.Codes.{number_of, ReportsFault}
use Rattle.dnsm_status.specs.declared.code.CallError.TheVariants as faults

-- the state with a header and one question
abbrev pub asking : HeaderFields → QuestionItem → State
asking header x = record fresh { stage = InQuestion; header = header; questions = x ∷ [] }

-- the state with one record in the answer section too
abbrev pub answering : HeaderFields → QuestionItem → RecordItem → State
answering header x answer = record (asking header x) { stage = InAnswer; answers = answer ∷ [] }

-- the A record that answers a question, with its name and class. RFC 1035 section 3.4.1
abbrev pub address_record : QuestionItem → ℕ → List ℕ → RecordItem
address_record x ttl address = record { owner = x.name; rtype = 1; class = x.class; ttl = ttl; parts = Octets address ∷ [] }

-- the header of a query: this ID and RD, and no other bit set
abbrev pub query_header : ℕ → Bool → HeaderFields
query_header id rd = record (fields_in (replicate 4 0)) { id = id; rd = rd }

-- The octets of a query: its header, and one question for the name that the text spells.
pub record IsQuery (id : ℕ) (rd : Bool) (text : List ℕ) (qtype qclass : ℕ) (octets : List ℕ) : Type 0 where
  pub name : Labels
  pub spelled : SpellsName text name
  pub message : IsMessageOf Plain (asking (query_header id rd) (record { name = name; rtype = qtype; class = qclass })) octets

-- a standard query: the opcode is QUERY
pub record HoldsStandardQuery (b : List ℕ) : Type 0 where
  pub query : HoldsQuery b
  pub opcode : (fields_in (take 4 b)).opcode ≡ 0

-- a standard query with exactly one question, which can be read
pub record AsksOne (b : List ℕ) (x : QuestionItem) : Type 0 where
  pub standard : HoldsStandardQuery b
  pub one : question_count b ≡ 1
  pub after : ℕ
  pub reads : ReadsQuestion b header_size after x

-- the question asks for IPv4 addresses: class IN, and type A or ANY. RFC 1035 sections 3.2.2 to 3.2.4
pub record Asks (b : List ℕ) (x : QuestionItem) : Type 0 where
  pub question : AsksOne b x
  pub class : x.class ≡ 1
  pub rtype : (x.rtype ≡ 1) ⊎ (x.rtype ≡ 255)

-- The octets are no such query, and the number says why. It is the first of: shorter than a header section, a response, another opcode, not one question, a
-- malformed question, another class, another type.
abbrev pub AsksNothing : List ℕ → ℕ → Type 0
AsksNothing b n =
    ((length b < header_size) × (n ≡ number_of faults.ShortInput))
    ⊎ ((header_size ≤ length b) × ((fields_in (take 4 b)).qr ≡ true) × (n ≡ number_of faults.IsResponse))
    ⊎ (HoldsQuery b × ((fields_in (take 4 b)).opcode ≢ 0) × (n ≡ number_of faults.OtherOpcode))
    ⊎ (HoldsStandardQuery b × (question_count b ≢ 1) × (n ≡ number_of faults.NoQuestion))
    ⊎ (HoldsStandardQuery b × (question_count b ≡ 1) × ((f : Fault) × QuestionFaultAt b header_size f × ReportsFault f n))
    ⊎ (((x : QuestionItem) × AsksOne b x × (x.class ≢ 1)) × (n ≡ number_of faults.OtherClass))
    ⊎ (((x : QuestionItem) × AsksOne b x × (x.class ≡ 1) × (x.rtype ≢ 1) × (x.rtype ≢ 255)) × (n ≡ number_of faults.OtherType))

-- the header of the response to a query with the header `asked`: its ID, opcode, RD and CD, QR, AA as given, and no other bit. RFC 1035 section 4.1.1
abbrev pub response_header : HeaderFields → Bool → HeaderFields
response_header asked aa = record asked { qr = true; aa = aa; tc = false; ra = false; z = false; ad = false; rcode = 0 }

-- The octets of the response to a query: its header, the query's question, and the A record.
pub record IsResponse (query : List ℕ) (aa : Bool) (ttl : ℕ) (address octets : List ℕ) : Type 0 where
  pub asked : QuestionItem
  pub asks : Asks query asked
  pub message : IsMessageOf Static (answering (response_header (fields_in (take 4 query)) aa) asked (address_record asked ttl address)) octets
