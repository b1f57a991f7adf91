-- The fields of a question, and what parsing and skipping one returns. RFC 1035 section 4.1.2.
use Rattle.std.specs.Prelude.{◌≡◌, ℕ, Result, Ok, Err, List, ◌++◌, ◌∷◌, Option, option_map, codes}
use Rattle.dns_octets.specs.declared.error.ParseError.{ParseError}
use Rattle.dns_name.specs.Names.{fault_of, Labels}
use Rattle.dns_name.specs.ParsedName.{labels}
use Rattle.dns_name.specs.Parsers.{seen, offset, MovesTo}
use Rattle.dns_name.specs.declared.parsed_name.ParsedName.{ParsedName}
use Rattle.dns_name.specs.declared.parser.Parser.{Parser}
use Rattle.dns_iana.specs.Classes.{class_text}
use Rattle.dns_iana.specs.Types.{type_text}
use Rattle.dns_item.specs.Questions.{SkipsQuestion, ReadsQuestion, QuestionFaultAt, QuestionSkipFaultAt, QuestionItem}
use Rattle.dns_item.specs.declared.question.Question.{Question}

-- the fields
abbrev pub qname_of : {N : Type 0} → Question N → N
qname_of q = q.qname

abbrev pub qtype_of : {N : Type 0} → Question N → ℕ
qtype_of q = q.qtype

abbrev pub qclass_of : {N : Type 0} → Question N → ℕ
qclass_of q = q.qclass

-- the question with these fields
pub record HasFields {N : Type 0} (q : Question N) (qname : N) (qtype qclass : ℕ) : Type 0 where
  pub name : qname_of q ≡ qname
  pub rtype : qtype_of q ≡ qtype
  pub class : qclass_of q ≡ qclass

-- a question as a value, with the labels of its name
abbrev pub question_item : {N : Type 0} → (N → Labels) → Question N → QuestionItem
question_item labels_of q = record { name = labels_of (qname_of q); rtype = qtype_of q; class = qclass_of q }

-- a parsed question as a value
abbrev pub parsed_question : Question ParsedName → QuestionItem
parsed_question = question_item labels

-- What parsing returns: the question at the parser's offset, with the parser moved past it; or the fault there, and the parser doesn't move.
abbrev pub ParsesQuestion : Parser → Parser → Result (Question ParsedName) ParseError → Type 0
ParsesQuestion old new (Ok q) = ReadsQuestion (seen old) (offset old) (offset new) (parsed_question q) × MovesTo old new (offset new)
ParsesQuestion old new (Err e) = QuestionFaultAt (seen old) (offset old) (fault_of e) × (new ≡ old)

-- Skipping moves the parser past the question. If it can't be skipped, it returns the fault, and the parser doesn't move.
abbrev pub SkipsOverQuestion : Parser → Parser → Result Unit ParseError → Type 0
SkipsOverQuestion old new (Ok _) = SkipsQuestion (seen old) (offset old) (offset new) × MovesTo old new (offset new)
SkipsOverQuestion old new (Err e) = QuestionSkipFaultAt (seen old) (offset old) (fault_of e) × (new ≡ old)

-- Questions in presentation format. RFC 1035 section 5.1.

-- the octet of a tab
abbrev pub tab : ℕ
tab = 0x09

-- the text of a question whose name has this text
abbrev pub fields_text : List ℕ → ℕ → ℕ → List ℕ
fields_text name rtype class = name ++ codes "." ++ tab ∷ type_text rtype ++ tab ∷ class_text class

-- the text of a question, if the text of its name is known
abbrev pub question_text : {N : Type 0} → (N → Option (List ℕ)) → Question N → Option (List ℕ)
question_text name_text q = option_map (λ name. fields_text name (qtype_of q) (qclass_of q)) (name_text (qname_of q))
