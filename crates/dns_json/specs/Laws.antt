-- What is true of the JSON of all messages, whose octets are `b`.
use Rattle.std.specs.Prelude.{◌≡◌, ℕ, ◌<◌, ◌≤◌, ◌^◌, nat_le, if◌then◌else◌, List, take, All, IsTrue, Some, None, length, option_map, codes}
use Rattle.std.specs.List.{list_all}
use Rattle.json.specs.Find.{get}
use Rattle.json.specs.Json.{boolean, number, string, document}
use Rattle.json.specs.Strict.{HasUniqueKeys}
use Rattle.dns_iana.specs.Classes.{class_text}
use Rattle.dns_code.specs.Header.{fields_in}
use Rattle.dns_code.specs.HeaderSection.{header_size}
use Rattle.dns_item.specs.ParsedRecord.{EncodedRecord}
use Rattle.dns_item.specs.Questions.{QuestionItem}
use Rattle.dns_read.specs.Searches.{asked_first, questions_of}
use Rattle.dns_read.specs.declared.section.Section.{Section}
use Rattle.dns_lines.specs.Show.{counts_of}
use Rattle.dns_lines.specs.ZoneLines.{rdata_octets}
use Rattle.fields_plain.specs.TypeNames.{type_word}
use Rattle.fields_plain.specs.ZoneNames.{zone_name_text}
use Rattle.json_print.specs.Values.{numeral}
use Rattle.dns_json.specs.Entries.{entries_json}
use Rattle.dns_json.specs.Messages.{message_json, message_json_text, octets_json, octets_json_text, question_json, reading_of, section_name, is_whole}
use Rattle.dns_json.specs.Records.{hex_text, presentation, rdata_name, record_json, ttl_text}

-- octets of a message: at least a header section, each below 256
pub record AreMessage (b : List ℕ) : Type 0 where
  pub long : header_size ≤ length b
  pub short : length b < 2 ^ 64
  pub below : All (λ octet. octet < 256) b

-- The text of each message is a JSON text, and what is read of it is the value of the message.
abbrev pub TextsAreJson : Type 0
TextsAreJson = (b : List ℕ) → AreMessage b → document (message_json_text b) ≡ Some (message_json b)

-- So is the text of octets that are too few for a message.
abbrev pub OctetsAreJson : Type 0
OctetsAreJson = (b : List ℕ) → document (octets_json_text b) ≡ Some (octets_json b)

-- It has no control character, so it is one line.
abbrev pub TextsAreLines : Type 0
TextsAreLines = (b : List ℕ) → IsTrue (list_all (nat_le 32) (message_json_text b))

abbrev pub OctetsAreLines : Type 0
OctetsAreLines = (b : List ℕ) → IsTrue (list_all (nat_le 32) (octets_json_text b))

-- No object in it has a name twice (RFC 7493 section 2.3).
abbrev pub NamesAreUnique : Type 0
NamesAreUnique = (b : List ℕ) → HasUniqueKeys (message_json b)

-- The members of the object are the fields of the header, the counts, those of the first question, the sections, and the octets.
pub record MembersAreRead (b : List ℕ) : Type 0 where
  pub id : get (codes "ID") (message_json b) ≡ Some (numeral (fields_in (take 4 b)).id)
  pub qr : get (codes "QR") (message_json b) ≡ Some (boolean (fields_in (take 4 b)).qr)
  pub opcode : get (codes "Opcode") (message_json b) ≡ Some (numeral (fields_in (take 4 b)).opcode)
  pub aa : get (codes "AA") (message_json b) ≡ Some (boolean (fields_in (take 4 b)).aa)
  pub tc : get (codes "TC") (message_json b) ≡ Some (boolean (fields_in (take 4 b)).tc)
  pub rd : get (codes "RD") (message_json b) ≡ Some (boolean (fields_in (take 4 b)).rd)
  pub ra : get (codes "RA") (message_json b) ≡ Some (boolean (fields_in (take 4 b)).ra)
  pub ad : get (codes "AD") (message_json b) ≡ Some (boolean (fields_in (take 4 b)).ad)
  pub cd : get (codes "CD") (message_json b) ≡ Some (boolean (fields_in (take 4 b)).cd)
  pub rcode : get (codes "RCODE") (message_json b) ≡ Some (numeral (fields_in (take 4 b)).rcode)
  pub qdcount : get (codes "QDCOUNT") (message_json b) ≡ Some (numeral (counts_of b).qdcount)
  pub ancount : get (codes "ANCOUNT") (message_json b) ≡ Some (numeral (counts_of b).ancount)
  pub nscount : get (codes "NSCOUNT") (message_json b) ≡ Some (numeral (counts_of b).nscount)
  pub arcount : get (codes "ARCOUNT") (message_json b) ≡ Some (numeral (counts_of b).arcount)
  pub qname : get (codes "QNAME") (message_json b) ≡ option_map (λ (q : QuestionItem). string (zone_name_text q.name)) (asked_first b)
  pub qtype : get (codes "QTYPE") (message_json b) ≡ option_map (λ (q : QuestionItem). numeral q.rtype) (asked_first b)
  pub qtype_name : get (codes "QTYPEname") (message_json b) ≡ option_map (λ (q : QuestionItem). string (type_word q.rtype)) (asked_first b)
  pub qclass : get (codes "QCLASS") (message_json b) ≡ option_map (λ (q : QuestionItem). numeral q.class) (asked_first b)
  pub qclass_name : get (codes "QCLASSname") (message_json b) ≡ option_map (λ (q : QuestionItem). string (class_text q.class)) (asked_first b)
  pub questions : get (codes "questionRRs") (message_json b) ≡ Some (entries_json question_json (questions_of b))
  pub records : (which : Section) → get (section_name which) (message_json b) ≡ option_map (entries_json record_json) (reading_of which b)
  pub octets : get (codes "messageOctetsHEX") (message_json b) ≡ (if is_whole b then None else Some (string (hex_text b)))

-- The same of each message.
abbrev pub MembersReadBack : Type 0
MembersReadBack = (b : List ℕ) → MembersAreRead b

-- The members of a question's object are its fields.
pub record QuestionMembersAreRead (q : QuestionItem) : Type 0 where
  pub qname : get (codes "NAME") (question_json q) ≡ Some (string (zone_name_text q.name))
  pub qtype : get (codes "TYPE") (question_json q) ≡ Some (numeral q.rtype)
  pub qtype_name : get (codes "TYPEname") (question_json q) ≡ Some (string (type_word q.rtype))
  pub qclass : get (codes "CLASS") (question_json q) ≡ Some (numeral q.class)
  pub qclass_name : get (codes "CLASSname") (question_json q) ≡ Some (string (class_text q.class))

-- The same of each question.
abbrev pub QuestionMembersReadBack : Type 0
QuestionMembersReadBack = (q : QuestionItem) → QuestionMembersAreRead q

-- The members of a record's object are its fields, and its RDATA as octets and in presentation format.
pub record RecordMembersAreRead (x : EncodedRecord) : Type 0 where
  pub owner : get (codes "NAME") (record_json x) ≡ Some (string (zone_name_text x.entry.owner))
  pub rtype : get (codes "TYPE") (record_json x) ≡ Some (numeral x.entry.rtype)
  pub rtype_name : get (codes "TYPEname") (record_json x) ≡ Some (string (type_word x.entry.rtype))
  pub class : get (codes "CLASS") (record_json x) ≡ Some (numeral x.entry.class)
  pub class_name : get (codes "CLASSname") (record_json x) ≡ Some (string (class_text x.entry.class))
  pub ttl : get (codes "TTL") (record_json x) ≡ Some (number (ttl_text x.entry.ttl))
  pub rdlength : get (codes "RDLENGTH") (record_json x) ≡ Some (numeral (length (rdata_octets x)))
  pub octets : get (codes "RDATAHEX") (record_json x) ≡ Some (string (hex_text (rdata_octets x)))
  pub text : get (rdata_name x.entry.rtype) (record_json x) ≡ option_map string (presentation x)

-- The same of each record.
abbrev pub RecordMembersReadBack : Type 0
RecordMembersReadBack = (x : EncodedRecord) → RecordMembersAreRead x

-- The one member of the object for octets that are too few for a message is these octets.
abbrev pub OctetsReadBack : Type 0
OctetsReadBack = (b : List ℕ) → get (codes "messageOctetsHEX") (octets_json b) ≡ Some (string (hex_text b))
