-- What the contracts of the modules' examples cite.
use Rattle.std.specs.Prelude.{◌≡◌, ℕ, List, [], ◌∷◌, map, Option, Ok}
use Rattle.dns_message.specs.Data.{Part, Octets, address_of, Layout, Fixed, End, only}
use Rattle.dns_message.specs.Headers.{header_size, fields_in}
use Rattle.dns_message.specs.declared.data.A.{A}
use Rattle.dns_message.specs.Questions.{QuestionItem}
use Rattle.dns_message.specs.Records.{RecordItem}
use Rattle.dns_message.specs.Names.{Labels}
use Rattle.dns_message.specs.Replies.{Records, Says, Answered, members}
use Rattle.dns_message.specs.Sections.{questions_from, question_count}
use Rattle.dns_message.specs.Builders.{answer_header, readable_questions, fresh, InAnswer, State}

-- reading the question section of these octets yields exactly these questions, without a fault
abbrev pub HasQuestions : List ℕ → List QuestionItem → Type 0
HasQuestions b questions = questions_from b (question_count b) header_size ≡ map Ok questions

-- the RDATA of an A record, whose type is 1: four octets. RFC 1035 section 3.4.1
abbrev pub a_layout : ℕ → Option Layout
a_layout = only 1 (Fixed 4 End)

abbrev pub address_parts : A → List Part
address_parts a = Octets (address_of a) ∷ []

-- the response to a query with one record: the query's ID, opcode, RD and readable questions, QR, and the rcode NOERROR, which is 0. RFC 1035 section 4.1.1
abbrev pub response_with : List ℕ → RecordItem → State
response_with query x = record fresh {
  stage = InAnswer;
  header = answer_header 0 (fields_in query) fresh.header;
  questions = readable_questions query;
  answers = x ∷ [];
}

-- A reply gives this set: the A records, of type 1 and class 1, of the name at the end of its chain of aliases, in the answer section.
pub record GivesSet (b : List ℕ) (zone : Labels) (set : Records) : Type 0 where
  pub name : Labels
  pub answers : Records
  pub ttl : ℕ
  pub says : Says b zone (Answered name answers ttl)
  pub left : set ≡ members name 1 1 answers
