-- The members of records and messages, as the lists that they are put together from.
use Rattle.std.proofs.Common.{ℕ, List, ◌∷◌, ◌++◌, codes, map}
use Rattle.std.specs.Prelude.{Result}
use Rattle.json.specs.Json.{Json, number}
use Rattle.dns_name.specs.Names.{Fault}
use Rattle.dns_item.specs.ParsedRecord.{EncodedRecord}
use Rattle.dns_item.specs.Questions.{QuestionItem}
use Rattle.dns_read.specs.Searches.{questions_of}
use Rattle.dns_read.specs.declared.section.Section.TheVariants.{Answer, Authority, Additional}
use Rattle.dns_lines.specs.ZoneLines.{rdata_octets}
use Rattle.json_print.specs.Values.{Member}
use Rattle.dns_json.specs.Entries.{entries_json, readable}
use Rattle.dns_json.specs.Header.{class_members, type_members}
use Rattle.dns_json.specs.Messages.{octets_members, question_json, reading_of, section_members, sections_members}
use Rattle.dns_json.specs.Records.{presentation, rdata_members, record_json, text_members, ttl_text}

-- the type and the class of a record or of a question in its section
abbrev pub record_type : ℕ → List Member
record_type rtype = type_members (codes "TYPE") (codes "TYPEname") rtype

abbrev pub record_class : ℕ → List Member
record_class class = class_members (codes "CLASS") (codes "CLASSname") class

-- the type of the first question
abbrev pub asked_type : QuestionItem → List Member
asked_type q = type_members (codes "QTYPE") (codes "QTYPEname") q.rtype

-- The class of the first question.
abbrev pub asked_class : QuestionItem → List Member
asked_class q = class_members (codes "QCLASS") (codes "QCLASSname") q.class

-- the members of a record after its class
abbrev pub after_class : EncodedRecord → List Member
after_class x = (codes "TTL", number (ttl_text x.entry.ttl)) ∷ (rdata_members (rdata_octets x) ++ text_members x.entry.rtype (presentation x))

-- the members of a message after the first question
abbrev pub after_asked : List ℕ → List Member
after_asked b = (codes "questionRRs", entries_json question_json (questions_of b)) ∷ (sections_members b ++ octets_members b)

-- the members for the answer section
abbrev pub answers : List ℕ → List Member
answers b = section_members Answer (reading_of Answer b)

-- The members for the authority section.
abbrev pub authorities : List ℕ → List Member
authorities b = section_members Authority (reading_of Authority b)

-- The members for the additional section.
abbrev pub additionals : List ℕ → List Member
additionals b = section_members Additional (reading_of Additional b)

-- the values of the arrays of questions and of records
abbrev pub question_items : List ℕ → List Json
question_items b = map question_json (readable (questions_of b))

abbrev pub record_items : List (Result EncodedRecord Fault) → List Json
record_items xs = map record_json (readable xs)
