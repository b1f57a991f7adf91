-- The text of a message has no control character.
use Rattle.std.proofs.Common.{◌≡◌, ℕ, ◌-◌, ◌^◌, Bool, true, false, nat_lt, List, [], ◌∷◌, ◌++◌, Option, Some, None, codes, decimal, length, map, refl, take}
use Rattle.std.specs.Prelude.{if◌then◌else◌, Result, Ok, Err}
use Rattle.json.specs.Json.{Json, string}
use Rattle.dns_name.specs.Names.{Fault, Labels}
use Rattle.dns_iana.specs.Classes.{class_text}
use Rattle.dns_code.specs.Header.{HeaderFields, fields_in}
use Rattle.dns_lines.specs.Show.{counts_of}
use Rattle.dns_lines.specs.ZoneLines.{rdata_octets}
use Rattle.dns_item.specs.ParsedRecord.{EncodedRecord}
use Rattle.dns_item.specs.Questions.{QuestionItem}
use Rattle.dns_read.specs.Searches.{asked_first, questions_of}
use Rattle.dns_read.specs.declared.section.Section.{Section}
use Rattle.dns_read.specs.declared.section.Section.TheVariants.{Answer, Authority, Additional}
use Rattle.fields_plain.specs.TypeNames.{type_word}
use Rattle.fields_plain.specs.ZoneNames.{zone_name_text}
use Rattle.json_print.specs.Values.{numeral}
use Rattle.json_print.proofs.theory.Lines.{IsLine, array_line, boolean_line, decimal_line, either_line, is_line, line_append, number_line, numeral_line, object_line, string_line}
use Rattle.json_print.proofs.theory.Shapes.{EachItem, EachValue, each_append}
use Rattle.dns_json.specs.Entries.{readable}
use Rattle.dns_json.specs.Header.{count_members, header_members, owner_members}
use Rattle.dns_json.specs.Laws.{OctetsAreLines, TextsAreLines}
use Rattle.dns_json.specs.Messages.{asked_members, body_members, head_members, is_whole, octets_members, question_json, reading_of, section_members, sections_members}
use Rattle.dns_json.specs.Records.{hex_text, presentation, rdata_members, record_json, record_members, text_members, ttl_text}
use Rattle.dns_json.proofs.MemberLists.{additionals, after_asked, after_class, answers, asked_class, asked_type, authorities, question_items, record_class, record_items, record_type}

ttl_line : (ttl : ℕ) → is_line (ttl_text ttl) ≡ true
ttl_line ttl =
    either_line (nat_lt ttl (2 ^ 31)) (decimal ttl) (codes "-" ++ decimal (2 ^ 32 - ttl)) (decimal_line ttl)
    (line_append (codes "-") (decimal (2 ^ 32 - ttl)) refl (decimal_line (2 ^ 32 - ttl)))

header_lines : (f : HeaderFields) → EachValue IsLine (header_members f)
header_lines f = (
  numeral_line f.id,
  (
    boolean_line f.qr,
    (
      numeral_line f.opcode,
      (
        boolean_line f.aa,
        (boolean_line f.tc, (boolean_line f.rd, (boolean_line f.ra, (boolean_line f.ad, (boolean_line f.cd, (numeral_line f.rcode, tt)))))),
      ),
    ),
  ),
)

named_lines : (number name word : List ℕ) (n : ℕ) → EachValue IsLine ((number, numeral n) ∷ (name, string word) ∷ [])
named_lines number name word n = (numeral_line n, (string_line word, tt))

owner_lines : (name : Labels) (rtype class : ℕ) → EachValue IsLine (owner_members name rtype class)
owner_lines name rtype class = (
  string_line (zone_name_text name),
  each_append IsLine (record_type rtype) (record_class class) (named_lines (codes "TYPE") (codes "TYPEname") (type_word rtype) rtype)
      (named_lines (codes "CLASS") (codes "CLASSname") (class_text class) class),
)

text_lines : (rtype : ℕ) (text : Option (List ℕ)) → EachValue IsLine (text_members rtype text)
text_lines rtype (Some text) = (string_line text, tt)
text_lines rtype None = tt

record_line : (x : EncodedRecord) → IsLine (record_json x)
record_line x =
    object_line (record_members x) (each_append IsLine (owner_members x.entry.owner x.entry.rtype x.entry.class) (after_class x) (owner_lines x.entry.owner x.entry.rtype x.entry.class) (
      number_line (ttl_text x.entry.ttl) (ttl_line x.entry.ttl),
      each_append IsLine (rdata_members (rdata_octets x)) (text_members x.entry.rtype (presentation x)) (numeral_line (length (rdata_octets x)), (string_line (hex_text (rdata_octets x)), tt))
          (text_lines x.entry.rtype (presentation x)),
    ))

question_line : (q : QuestionItem) → IsLine (question_json q)
question_line q = object_line (owner_members q.name q.rtype q.class) (owner_lines q.name q.rtype q.class)

entries_line : {X : Type 0} (json : X → Json) → ((x : X) → IsLine (json x)) → (xs : List (Result X Fault)) → EachItem IsLine (map json (readable xs))
entries_line json all [] = tt
entries_line json all (Ok x ∷ xs) = (all x, entries_line json all xs)
entries_line json all (Err f ∷ xs) = entries_line json all xs

section_lines : (which : Section) (reading : Option (List (Result EncodedRecord Fault))) → EachValue IsLine (section_members which reading)
section_lines which None = tt
section_lines which (Some xs) = (array_line (record_items xs) (entries_line record_json record_line xs), tt)

asked_lines : (q : Option QuestionItem) → EachValue IsLine (asked_members q)
asked_lines None = tt
asked_lines (Some q) = (
  string_line (zone_name_text q.name),
  each_append IsLine (asked_type q) (asked_class q) (named_lines (codes "QTYPE") (codes "QTYPEname") (type_word q.rtype) q.rtype)
      (named_lines (codes "QCLASS") (codes "QCLASSname") (class_text q.class) q.class),
)

octets_lines : (whole : Bool) (octets : List ℕ) → EachValue IsLine (if whole then [] else (codes "messageOctetsHEX", string octets) ∷ [])
octets_lines true octets = tt
octets_lines false octets = (string_line octets, tt)

-- The text of each message has none.
pub texts_are_lines : TextsAreLines
texts_are_lines b =
    let f = fields_in (take 4 b) in
    let n = counts_of b in
    let sections =
    each_append IsLine (answers b) (authorities b ++ additionals b)
    (section_lines Answer (reading_of Answer b))
    (each_append IsLine (authorities b) (additionals b) (section_lines Authority (reading_of Authority b))
    (section_lines Additional (reading_of Additional b))) in
    let head =
    each_append IsLine (header_members f) (count_members n) (header_lines f)
    (numeral_line n.qdcount, (numeral_line n.ancount, (numeral_line n.nscount, (numeral_line n.arcount, tt)))) in
    let body =
    each_append IsLine (asked_members (asked_first b)) (after_asked b) (asked_lines (asked_first b)) (
      array_line (question_items b) (entries_line question_json question_line (questions_of b)),
      each_append IsLine (sections_members b) (octets_members b) sections (octets_lines (is_whole b) (hex_text b)),
    ) in
    object_line (head_members b ++ body_members b) (each_append IsLine (head_members b) (body_members b) head body)

-- Nor has the text of octets.
pub octets_are_lines : OctetsAreLines
octets_are_lines b = object_line ((codes "messageOctetsHEX", string (hex_text b)) ∷ []) (string_line (hex_text b), tt)
