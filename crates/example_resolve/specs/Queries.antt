-- Queries for the records of a name. RFC 1035 section 4.1.1.
use Rattle.std.specs.Prelude.{◌≡◌, true, false, ℕ, List, [], ◌∷◌}
use Rattle.dns_message.specs.Targets.{Plain}
use Rattle.dns_message.specs.Headers.{HeaderFields}
use Rattle.dns_message.specs.Questions.{QuestionItem}
use Rattle.dns_message.specs.Builders.{ReadsBack, InQuestion, State, encode, no_limit}

-- the header of a query: an ID, RD, and no other bit
abbrev pub query_fields : ℕ → HeaderFields
query_fields id = record {
  id = id;
  qr = false;
  opcode = 0;
  aa = false;
  tc = false;
  rd = true;
  ra = false;
  z = false;
  ad = false;
  cd = false;
  rcode = 0;
}

-- the state with a header, one question, and no record
abbrev pub asking : HeaderFields → QuestionItem → State
asking header asked = record {
  stage = InQuestion;
  header = header;
  limit = no_limit;
  questions = asked ∷ [];
  answers = [];
  authorities = [];
  additionals = [];
}

-- the octets are the query with this ID and question and nothing else, and read back as that
pub record IsQuery (id : ℕ) (asked : QuestionItem) (b : List ℕ) : Type 0 where
  pub octets : b ≡ (encode Plain (asking (query_fields id) asked)).octets
  pub reads_back : ReadsBack (asking (query_fields id) asked) b
