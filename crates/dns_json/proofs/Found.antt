-- What a look-up finds in members: the last with the name, if there is one.
use Rattle.std.proofs.Common.{◌≡◌, ◌∙◌, ℕ, Bool, true, false, List, [], ◌∷◌, ◌++◌, Option, Some, None, ap, codes, length, refl, sym, take}
use Rattle.std.proofs.lemmas.Bool.{or_parts}
use Rattle.std.specs.List.{list_any}
use Rattle.std.specs.Prelude.{if◌then◌else◌, option_map, Result}
use Rattle.std.specs.Str.{bytes_eq}
use Rattle.json.specs.Find.{get, get_member, later_or}
use Rattle.json.specs.Json.{Json, boolean, number, string}
use Rattle.dns_name.specs.Names.{Fault}
use Rattle.dns_item.specs.ParsedRecord.{EncodedRecord}
use Rattle.dns_item.specs.Questions.{QuestionItem}
use Rattle.dns_read.specs.Searches.{asked_first, questions_of}
use Rattle.dns_read.specs.declared.section.Section.{Section}
use Rattle.dns_read.specs.declared.section.Section.TheVariants.{Answer, Authority, Additional}
use Rattle.dns_iana.specs.Classes.{class_text}
use Rattle.dns_code.specs.Header.{fields_in}
use Rattle.dns_lines.specs.Show.{counts_of}
use Rattle.dns_lines.specs.ZoneLines.{rdata_octets}
use Rattle.fields_plain.specs.TypeNames.{type_word}
use Rattle.fields_plain.specs.ZoneNames.{zone_name_text}
use Rattle.json_print.specs.Values.{Member, members_of, numeral}
use Rattle.dns_json.specs.Entries.{entries_json}
use Rattle.dns_json.specs.Header.{owner_members}
use Rattle.dns_json.specs.Laws.{MembersReadBack, OctetsReadBack, QuestionMembersReadBack, RecordMembersReadBack}
use Rattle.dns_json.specs.Messages.{asked_members, body_members, head_members, is_whole, message_json, octets_members, question_json, reading_of, section_members, section_name, sections_members}
use Rattle.dns_json.proofs.MemberLists.{additionals, after_asked, answers, authorities}
use Rattle.dns_json.proofs.UniqueNames.{same_text}
use Rattle.dns_json.specs.Records.{hex_text, presentation, rdata_members, rdata_name, record_json, text_members, ttl_text}

later_later : (a b c : Option Json) → later_or (later_or a b) c ≡ later_or a (later_or b c)
later_later (Some j) b c = refl
later_later None b c = refl

later_none : (o : Option Json) → later_or o None ≡ o
later_none (Some j) = refl
later_none None = refl

-- what is found in a list of members
abbrev find : List ℕ → List Member → Option Json
find name ms = get_member name (members_of ms)

-- In two lists, what the second has is found first.
found_append : (name : List ℕ) (ms ns : List Member) → find name (ms ++ ns) ≡ later_or (find name ns) (find name ms)
found_append name [] ns = sym (later_none (find name ns))
found_append name (m ∷ ms) ns =
    let first : Option Json = if bytes_eq m.0 name then Some m.1 else None in
    ap (λ (o : Option Json). later_or o first) (found_append name ms ns) ∙ later_later (find name ns) (find name ms) first

-- what the first list has is found if the second has none
in_first : (name : List ℕ) (ms ns : List Member) (found : Option Json) → find name ns ≡ None → find name ms ≡ found → find name (ms ++ ns) ≡ found
in_first name ms ns found none is = found_append name ms ns ∙ ap (λ (o : Option Json). later_or o (find name ms)) none ∙ is

-- what the second list has is found if the first has none
in_second : (name : List ℕ) (ms ns : List Member) (found : Option Json) → find name ms ≡ None → find name ns ≡ found → find name (ms ++ ns) ≡ found
in_second name ms ns found none is = found_append name ms ns ∙ ap (later_or (find name ns)) none ∙ later_none (find name ns) ∙ is

-- whether one of the names is this one
abbrev is_among : List ℕ → List (List ℕ) → Bool
is_among name names = list_any (λ other. bytes_eq other name) names

-- the names of the members that may be left out: those of the first question, of the sections, and of the octets
abbrev asked_names : List (List ℕ)
asked_names = codes "QNAME" ∷ codes "QTYPE" ∷ codes "QTYPEname" ∷ codes "QCLASS" ∷ codes "QCLASSname" ∷ []

abbrev later_names : List (List ℕ)
later_names = codes "answerRRs" ∷ codes "authorityRRs" ∷ codes "additionalRRs" ∷ codes "messageOctetsHEX" ∷ []

no_member : (name : List ℕ) (m : Member) (ms : List Member) → bytes_eq m.0 name ≡ false → find name ms ≡ None → find name (m ∷ ms) ≡ None
no_member name m ms other none =
    ap (λ (o : Option Json). later_or o (if bytes_eq m.0 name then Some m.1 else None)) none ∙ ap (λ (t : Bool). if t then Some m.1 else None) other

-- none of five members has a name that isn't theirs
not_five : (name : List ℕ) (m n o p q : Member) → is_among name (m.0 ∷ n.0 ∷ o.0 ∷ p.0 ∷ q.0 ∷ []) ≡ false → find name (m ∷ n ∷ o ∷ p ∷ q ∷ []) ≡ None
not_five name m n o p q none =
    let a = or_parts (bytes_eq m.0 name) _ none in
    let b = or_parts (bytes_eq n.0 name) _ a.1 in
    let c = or_parts (bytes_eq o.0 name) _ b.1 in
    let d = or_parts (bytes_eq p.0 name) _ c.1 in
    let e = or_parts (bytes_eq q.0 name) _ d.1 in
    no_member name m (n ∷ o ∷ p ∷ q ∷ []) a.0
    (no_member name n (o ∷ p ∷ q ∷ []) b.0 (no_member name o (p ∷ q ∷ []) c.0 (no_member name p (q ∷ []) d.0 (no_member name q [] e.0 refl))))

not_asked : (name : List ℕ) (q : Option QuestionItem) → is_among name asked_names ≡ false → find name (asked_members q) ≡ None
not_asked name None none = refl
not_asked name (Some q) none =
    not_five name (codes "QNAME", string (zone_name_text q.name)) (codes "QTYPE", numeral q.rtype) (codes "QTYPEname", string (type_word q.rtype)) (codes "QCLASS", numeral q.class)
    (codes "QCLASSname", string (class_text q.class)) none

not_section : (name : List ℕ) (which : Section) (reading : Option (List (Result EncodedRecord Fault))) → bytes_eq (section_name which) name ≡ false → find name (section_members which reading) ≡ None
not_section name which None none = refl
not_section name which (Some xs) none = no_member name (section_name which, entries_json record_json xs) [] none refl

not_octets : (name : List ℕ) (whole : Bool) (octets : List ℕ) → bytes_eq (codes "messageOctetsHEX") name ≡ false
    → find name (if whole then [] else (codes "messageOctetsHEX", string octets) ∷ []) ≡ None
not_octets name true octets none = refl
not_octets name false octets none = no_member name (codes "messageOctetsHEX", string octets) [] none refl

-- the octets' own member
own_octets : (whole : Bool) (octets : List ℕ)
    → find (codes "messageOctetsHEX") (if whole then [] else (codes "messageOctetsHEX", string octets) ∷ []) ≡ (if whole then None else Some (string octets))
own_octets true octets = refl
own_octets false octets = refl

-- the members of the first question
qname_found : (asked : Option QuestionItem) → find (codes "QNAME") (asked_members asked) ≡ option_map (λ (q : QuestionItem). string (zone_name_text q.name)) asked
qname_found None = refl
qname_found (Some q) = refl

qtype_found : (asked : Option QuestionItem) → find (codes "QTYPE") (asked_members asked) ≡ option_map (λ (q : QuestionItem). numeral q.rtype) asked
qtype_found None = refl
qtype_found (Some q) = refl

qtype_name_found : (asked : Option QuestionItem) → find (codes "QTYPEname") (asked_members asked) ≡ option_map (λ (q : QuestionItem). string (type_word q.rtype)) asked
qtype_name_found None = refl
qtype_name_found (Some q) = refl

qclass_found : (asked : Option QuestionItem) → find (codes "QCLASS") (asked_members asked) ≡ option_map (λ (q : QuestionItem). numeral q.class) asked
qclass_found None = refl
qclass_found (Some q) = refl

qclass_name_found : (asked : Option QuestionItem) → find (codes "QCLASSname") (asked_members asked) ≡ option_map (λ (q : QuestionItem). string (class_text q.class)) asked
qclass_name_found None = refl
qclass_name_found (Some q) = refl

module _ (b : List ℕ) where
  -- the value of a section's member
  abbrev arrays : Section → Option Json
  arrays which = option_map (entries_json record_json) (reading_of which b)

  not_sections : (name : List ℕ) → bytes_eq (section_name Answer) name ≡ false → bytes_eq (section_name Authority) name ≡ false → bytes_eq (section_name Additional) name ≡ false
      → find name (sections_members b) ≡ None
  not_sections name a c d =
      in_second name (answers b) (authorities b ++ additionals b) None (not_section name Answer (reading_of Answer b) a)
      (in_second name (authorities b) (additionals b) None (not_section name Authority (reading_of Authority b) c) (not_section name Additional (reading_of Additional b) d))

  -- the sections and the octets have no member of another name
  not_later : (name : List ℕ) → is_among name later_names ≡ false → find name (sections_members b ++ octets_members b) ≡ None
  not_later name none =
      let a = or_parts (bytes_eq (codes "answerRRs") name) _ none in
      let c = or_parts (bytes_eq (codes "authorityRRs") name) _ a.1 in
      let d = or_parts (bytes_eq (codes "additionalRRs") name) _ c.1 in
      let e = or_parts (bytes_eq (codes "messageOctetsHEX") name) _ d.1 in
      in_second name (sections_members b) (octets_members b) None (not_sections name a.0 c.0 d.0) (not_octets name (is_whole b) (hex_text b) e.0)

  -- what is found after the first question is found in the message, if neither it nor the header has the name
  in_message : (name : List ℕ) (found : Option Json) → find name (head_members b) ≡ None → is_among name asked_names ≡ false → find name (after_asked b) ≡ found
      → get name (message_json b) ≡ found
  in_message name found head asked is =
      in_second name (head_members b) (body_members b) found head (in_second name (asked_members (asked_first b)) (after_asked b) found (not_asked name (asked_first b) asked) is)

  -- a member of the header or the counts
  in_head : (name : List ℕ) (value : Json) → is_among name asked_names ≡ false → is_among name later_names ≡ false → bytes_eq (codes "questionRRs") name ≡ false
      → find name (head_members b) ≡ Some value → get name (message_json b) ≡ Some value
  in_head name value asked later question is =
      in_first name (head_members b) (body_members b) (Some value)
      (in_second name (asked_members (asked_first b)) (after_asked b) None (not_asked name (asked_first b) asked)
      (no_member name (codes "questionRRs", entries_json question_json (questions_of b)) (sections_members b ++ octets_members b) question (not_later name later))) is

  questions_found : get (codes "questionRRs") (message_json b) ≡ Some (entries_json question_json (questions_of b))
  questions_found =
      let name = codes "questionRRs" in
      let value = entries_json question_json (questions_of b) in
      in_message name (Some value) refl refl (ap (λ (o : Option Json). later_or o (Some value)) (not_later name refl))

  -- a section's own member
  own_section : (which : Section) (reading : Option (List (Result EncodedRecord Fault))) → find (section_name which) (section_members which reading) ≡ option_map (entries_json record_json) reading
  own_section Answer None = refl
  own_section Answer (Some xs) = refl
  own_section Authority None = refl
  own_section Authority (Some xs) = refl
  own_section Additional None = refl
  own_section Additional (Some xs) = refl

  in_sections : (which : Section) → find (section_name which) (sections_members b) ≡ arrays which
  in_sections Answer =
      let name = section_name Answer in
      in_first name (answers b) (authorities b ++ additionals b) (arrays Answer)
      (in_second name (authorities b) (additionals b) None (not_section name Authority (reading_of Authority b) refl) (not_section name Additional (reading_of Additional b) refl))
      (own_section Answer (reading_of Answer b))
  in_sections Authority =
      let name = section_name Authority in
      in_second name (answers b) (authorities b ++ additionals b) (arrays Authority) (not_section name Answer (reading_of Answer b) refl)
      (in_first name (authorities b) (additionals b) (arrays Authority) (not_section name Additional (reading_of Additional b) refl) (own_section Authority (reading_of Authority b)))
  in_sections Additional =
      let name = section_name Additional in
      in_second name (answers b) (authorities b ++ additionals b) (arrays Additional) (not_section name Answer (reading_of Answer b) refl)
      (in_second name (authorities b) (additionals b) (arrays Additional) (not_section name Authority (reading_of Authority b) refl) (own_section Additional (reading_of Additional b)))

  section_after : (which : Section) → bytes_eq (codes "messageOctetsHEX") (section_name which) ≡ false → bytes_eq (codes "questionRRs") (section_name which) ≡ false
      → find (section_name which) (after_asked b) ≡ arrays which
  section_after which octets questions =
      let name = section_name which in
      let later = in_first name (sections_members b) (octets_members b) (arrays which) (not_octets name (is_whole b) (hex_text b) octets) (in_sections which) in
      ap (λ (t : Bool). later_or (find name (sections_members b ++ octets_members b)) (if t then Some (entries_json question_json (questions_of b)) else None)) questions
      ∙ later_none (find name (sections_members b ++ octets_members b)) ∙ later

  section_found : (which : Section) → get (section_name which) (message_json b) ≡ arrays which
  section_found Answer = in_message (section_name Answer) (arrays Answer) refl refl (section_after Answer refl refl)
  section_found Authority = in_message (section_name Authority) (arrays Authority) refl refl (section_after Authority refl refl)
  section_found Additional = in_message (section_name Additional) (arrays Additional) refl refl (section_after Additional refl refl)

  message_octets_found : get (codes "messageOctetsHEX") (message_json b) ≡ (if is_whole b then None else Some (string (hex_text b)))
  message_octets_found =
      let name = codes "messageOctetsHEX" in
      let found : Option Json = if is_whole b then None else Some (string (hex_text b)) in
      in_message name found refl refl
      (later_none (find name (sections_members b ++ octets_members b))
      ∙ in_second name (sections_members b) (octets_members b) found (not_sections name refl refl refl) (own_octets (is_whole b) (hex_text b)))

  -- a member of the first question
  in_asked : (name : List ℕ) (found : Option Json) → find name (head_members b) ≡ None → bytes_eq (codes "questionRRs") name ≡ false → is_among name later_names ≡ false
      → find name (asked_members (asked_first b)) ≡ found → get name (message_json b) ≡ found
  in_asked name found head question later is =
      in_second name (head_members b) (body_members b) found head
      (in_first name (asked_members (asked_first b)) (after_asked b) found
      (no_member name (codes "questionRRs", entries_json question_json (questions_of b)) (sections_members b ++ octets_members b) question (not_later name later)) is)

-- The members of a message's object are its fields.
pub members_read_back : MembersReadBack
members_read_back b =
    let f = fields_in (take 4 b) in
    let n = counts_of b in
    record {
      id = in_head b (codes "ID") (numeral f.id) refl refl refl refl;
      qr = in_head b (codes "QR") (boolean f.qr) refl refl refl refl;
      opcode = in_head b (codes "Opcode") (numeral f.opcode) refl refl refl refl;
      aa = in_head b (codes "AA") (boolean f.aa) refl refl refl refl;
      tc = in_head b (codes "TC") (boolean f.tc) refl refl refl refl;
      rd = in_head b (codes "RD") (boolean f.rd) refl refl refl refl;
      ra = in_head b (codes "RA") (boolean f.ra) refl refl refl refl;
      ad = in_head b (codes "AD") (boolean f.ad) refl refl refl refl;
      cd = in_head b (codes "CD") (boolean f.cd) refl refl refl refl;
      rcode = in_head b (codes "RCODE") (numeral f.rcode) refl refl refl refl;
      qdcount = in_head b (codes "QDCOUNT") (numeral n.qdcount) refl refl refl refl;
      ancount = in_head b (codes "ANCOUNT") (numeral n.ancount) refl refl refl refl;
      nscount = in_head b (codes "NSCOUNT") (numeral n.nscount) refl refl refl refl;
      arcount = in_head b (codes "ARCOUNT") (numeral n.arcount) refl refl refl refl;
      qname = in_asked b (codes "QNAME") _ refl refl refl (qname_found (asked_first b));
      qtype = in_asked b (codes "QTYPE") _ refl refl refl (qtype_found (asked_first b));
      qtype_name = in_asked b (codes "QTYPEname") _ refl refl refl (qtype_name_found (asked_first b));
      qclass = in_asked b (codes "QCLASS") _ refl refl refl (qclass_found (asked_first b));
      qclass_name = in_asked b (codes "QCLASSname") _ refl refl refl (qclass_name_found (asked_first b));
      questions = questions_found b;
      records = section_found b;
      octets = message_octets_found b;
    }

-- The members of a question's object are its fields.
pub question_members_read_back : QuestionMembersReadBack
question_members_read_back q = record { qname = refl; qtype = refl; qtype_name = refl; qclass = refl; qclass_name = refl }

-- The member of the object for octets is these octets.
pub octets_read_back : OctetsReadBack
octets_read_back b = refl

-- the members of a record whose RDATA has this text
abbrev record_with : EncodedRecord → Option (List ℕ) → List Member
record_with x text =
    owner_members x.entry.owner x.entry.rtype x.entry.class ++ ((codes "TTL", number (ttl_text x.entry.ttl)) ∷ (rdata_members (rdata_octets x) ++ text_members x.entry.rtype text))

module _ (x : EncodedRecord) where
  name_found : (text : Option (List ℕ)) → find (codes "NAME") (record_with x text) ≡ Some (string (zone_name_text x.entry.owner))
  name_found (Some text) = refl
  name_found None = refl

  type_found : (text : Option (List ℕ)) → find (codes "TYPE") (record_with x text) ≡ Some (numeral x.entry.rtype)
  type_found (Some text) = refl
  type_found None = refl

  type_name_found : (text : Option (List ℕ)) → find (codes "TYPEname") (record_with x text) ≡ Some (string (type_word x.entry.rtype))
  type_name_found (Some text) = refl
  type_name_found None = refl

  class_name_found : (text : Option (List ℕ)) → find (codes "CLASSname") (record_with x text) ≡ Some (string (class_text x.entry.class))
  class_name_found (Some text) = refl
  class_name_found None = refl

  class_found : (text : Option (List ℕ)) → find (codes "CLASS") (record_with x text) ≡ Some (numeral x.entry.class)
  class_found (Some text) = refl
  class_found None = refl

  ttl_found : (text : Option (List ℕ)) → find (codes "TTL") (record_with x text) ≡ Some (number (ttl_text x.entry.ttl))
  ttl_found (Some text) = refl
  ttl_found None = refl

  length_found : (text : Option (List ℕ)) → find (codes "RDLENGTH") (record_with x text) ≡ Some (numeral (length (rdata_octets x)))
  length_found (Some text) = refl
  length_found None = refl

  octets_found : (text : Option (List ℕ)) → find (codes "RDATAHEX") (record_with x text) ≡ Some (string (hex_text (rdata_octets x)))
  octets_found (Some text) = refl
  octets_found None = refl

  own_text : (text : Option (List ℕ)) → find (rdata_name x.entry.rtype) (text_members x.entry.rtype text) ≡ option_map string text
  own_text (Some text) = ap (λ (t : Bool). if t then Some (string text) else None) (same_text (rdata_name x.entry.rtype))
  own_text None = refl

  text_found : (text : Option (List ℕ)) → find (rdata_name x.entry.rtype) (record_with x text) ≡ option_map string text
  text_found text =
      let name = rdata_name x.entry.rtype in
      let ttl : Member = (codes "TTL", number (ttl_text x.entry.ttl)) in
      in_second name (owner_members x.entry.owner x.entry.rtype x.entry.class) (ttl ∷ (rdata_members (rdata_octets x) ++ text_members x.entry.rtype text)) (option_map string text) refl
      (in_second name (ttl ∷ rdata_members (rdata_octets x)) (text_members x.entry.rtype text) (option_map string text) refl (own_text text))

-- The members of a record's object are its fields, its octets and its text.
pub record_members_read_back : RecordMembersReadBack
record_members_read_back x =
    let text = presentation x in
    record {
      owner = name_found x text;
      rtype = type_found x text;
      rtype_name = type_name_found x text;
      class = class_found x text;
      class_name = class_name_found x text;
      ttl = ttl_found x text;
      rdlength = length_found x text;
      octets = octets_found x text;
      text = text_found x text;
    }
