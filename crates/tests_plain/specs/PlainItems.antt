-- Plain items and messages, and what they represent. RFC 1035 section 4.1.
use Rattle.std.specs.Prelude.{◌≡◌, Some, None}
use Rattle.std.specs.List.{AllZip}
use Rattle.dns_name.specs.Names.{uncompressed}
use Rattle.dns_wire.specs.Parts.{Part, Octets, CompressibleName, UncompressedName}
use Rattle.dns_code.specs.Header.{octets_of_fields}
use Rattle.dns_item.specs.Questions as questions
use Rattle.dns_item.specs.Items as items
use Rattle.dns_build.specs.State.{State}
use Rattle.tests_plain.specs.PlainNames.{IsNamed}
use Rattle.tests_plain.specs.declared.writing.PlainPart as plain
use Rattle.tests_plain.specs.declared.writing.PlainPart.TheVariants as parts
use Rattle.tests_plain.specs.declared.writing.PlainItem.{PlainItem}
use Rattle.tests_plain.specs.declared.writing.PlainMessage.{PlainMessage}

-- a part of RDATA: the same octets, or the uncompressed octets of the name
abbrev pub IsPart : plain.PlainPart → Part → Type 0
IsPart (parts.Octets octets) (Octets xs) = octets.now ≡ xs
IsPart (parts.Octets octets) (UncompressedName lowercased name) = octets.now ≡ uncompressed name
IsPart (parts.CompressibleName octets) (CompressibleName name) = IsNamed octets.now name
IsPart plain_part part = ⊥

-- the question
pub record IsQuestionItem (plain_item : PlainItem) (x : questions.QuestionItem) : Type 0 where
  pub name : IsNamed plain_item.name.now x.name
  pub rtype : plain_item.rtype ≡ x.rtype
  pub class : plain_item.class ≡ x.class
  pub ttl : plain_item.ttl ≡ None

-- the record
pub record IsRecordItem (plain_item : PlainItem) (x : items.RecordItem) : Type 0 where
  pub owner : IsNamed plain_item.name.now x.owner
  pub rtype : plain_item.rtype ≡ x.rtype
  pub class : plain_item.class ≡ x.class
  pub ttl : plain_item.ttl ≡ Some x.ttl
  pub parts : AllZip IsPart plain_item.parts.now x.parts

-- the message has the header and the items of the state
pub record HasItems (message : PlainMessage) (s : State) : Type 0 where
  pub header : message.header ≡ octets_of_fields s.header
  pub questions : AllZip IsQuestionItem message.questions.now s.questions
  pub answers : AllZip IsRecordItem message.answers.now s.answers
  pub authorities : AllZip IsRecordItem message.authorities.now s.authorities
  pub additionals : AllZip IsRecordItem message.additionals.now s.additionals
