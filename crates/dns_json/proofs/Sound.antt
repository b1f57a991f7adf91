-- The JSON of a message is read back: its numbers are numbers of JSON, and it nests three deep.
use Rattle.std.proofs.Common.{ℕ, ◌+◌, ◌++◌, ◌<◌, ◌^◌, Bool, true, false, List, [], ◌∷◌, Option, Some, None, arith, codes, length, length-drop, map, take}
use Rattle.std.proofs.lemmas.List.{length-take, length-take-le}
use Rattle.std.proofs.lemmas.List.Elements.{All-take}
use Rattle.std.specs.Prelude.{if◌then◌else◌, option_map, ⊤, Result, Ok, Err}
use Rattle.json.specs.Json.{Json, string}
use Rattle.json.proofs.Printed.Trees.{document-print}
use Rattle.dns_name.specs.Names.{Fault, Labels}
use Rattle.dns_iana.specs.Classes.{class_text}
use Rattle.dns_code.specs.Header.{HeaderFields, IsHeader, fields_in}
use Rattle.dns_code.specs.HeaderCounts.{Counts}
use Rattle.dns_code.specs.HeaderSection.{header_size}
use Rattle.dns_code.proofs.theory.HeaderOctets.{is_header}
use Rattle.dns_item.specs.Items.{ReadsRecord, RecordEntry, RecordFaultAt}
use Rattle.dns_item.specs.ParsedRecord.{EncodedRecord}
use Rattle.dns_item.specs.Questions.{QuestionFaultAt, QuestionItem, ReadsQuestion}
use Rattle.dns_item.specs.RecordReading.{up_to_rdata_end}
use Rattle.dns_read.specs.Reading.{Reading}
use Rattle.dns_read.specs.Reading.Reading.{none, entry, stop}
use Rattle.dns_read.specs.RecordsFrom.{in_octets, records_from, records_in}
use Rattle.dns_read.specs.Searches.{asked_first, first_value, questions_of}
use Rattle.dns_read.specs.SectionStarts.{start_of}
use Rattle.dns_read.specs.Sections.{question_count, record_count}
use Rattle.dns_read.specs.declared.section.Section.{Section}
use Rattle.dns_read.specs.declared.section.Section.TheVariants.{Answer, Authority, Additional}
use Rattle.dns_read.proofs.theory.QuestionsFromLemmas.{questions_from_are_read}
use Rattle.dns_read.proofs.theory.RecordsFromLemmas.{records_from_are_read}
use Rattle.dns_lines.specs.Show.{counts_of}
use Rattle.dns_lines.specs.ZoneLines.{rdata_octets}
use Rattle.fields_plain.specs.TypeNames.{type_word}
use Rattle.fields_plain.specs.ZoneNames.{zone_name_text}
use Rattle.json_print.specs.Values.{numeral}
use Rattle.json_print.proofs.theory.Shapes.{EachItem, EachValue, IsSound, array_sound, boolean_sound, each_append, number_sound, numeral_sound, object_sound, string_sound}
use Rattle.dns_json.specs.Entries.{entries_json, readable}
use Rattle.dns_json.specs.Header.{count_members, header_members, owner_members}
use Rattle.dns_json.specs.Laws.{AreMessage, OctetsAreJson, TextsAreJson}
use Rattle.dns_json.specs.Messages.{asked_members, body_members, head_members, is_whole, message_json, octets_json, octets_members, question_json, section_members, sections_members}
use Rattle.dns_json.specs.Records.{hex_text, presentation, rdata_members, record_json, record_members, text_members, ttl_text}
use Rattle.dns_json.proofs.MemberLists.{additionals, after_asked, after_class, answers, asked_class, asked_type, authorities, question_items, record_class, record_items, record_type}
use Rattle.dns_json.proofs.Numbers.{number_16, number_32, ttl_number}

module _ (most : ℕ) where
  header_sound : (f : HeaderFields) → IsHeader f → EachValue (IsSound most) (header_members f)
  header_sound f is =
      let flag = boolean_sound most in
      let id = is.id in
      let opcode = is.opcode in
      let rcode = is.rcode in (
        numeral_sound most f.id (omega arith),
        (
          flag f.qr,
          (
            numeral_sound most f.opcode (omega arith),
            (flag f.aa, (flag f.tc, (flag f.rd, (flag f.ra, (flag f.ad, (flag f.cd, (numeral_sound most f.rcode (omega arith), tt))))))),
          ),
        ),
      )

  counts_sound : (c : Counts) → c.qdcount < 2 ^ 16 → c.ancount < 2 ^ 16 → c.nscount < 2 ^ 16 → c.arcount < 2 ^ 16 → EachValue (IsSound most) (count_members c)
  counts_sound c q a n r = (
    numeral_sound most c.qdcount (omega arith),
    (numeral_sound most c.ancount (omega arith), (numeral_sound most c.nscount (omega arith), (numeral_sound most c.arcount (omega arith), tt))),
  )

  -- a number and its name
  named_sound : (number name word : List ℕ) (n : ℕ) → n < 2 ^ 16 → EachValue (IsSound most) ((number, numeral n) ∷ (name, string word) ∷ [])
  named_sound number name word n small = (numeral_sound most n (omega arith), (string_sound most word, tt))

  owner_sound : (name : Labels) (rtype class : ℕ) → rtype < 2 ^ 16 → class < 2 ^ 16 → EachValue (IsSound most) (owner_members name rtype class)
  owner_sound name rtype class t c = (
    string_sound most (zone_name_text name),
    each_append (IsSound most) (record_type rtype) (record_class class) (named_sound (codes "TYPE") (codes "TYPEname") (type_word rtype) rtype t)
        (named_sound (codes "CLASS") (codes "CLASSname") (class_text class) class c),
  )

  text_sound : (rtype : ℕ) (text : Option (List ℕ)) → EachValue (IsSound most) (text_members rtype text)
  text_sound rtype (Some text) = (string_sound most text, tt)
  text_sound rtype None = tt

  record_sound : (x : EncodedRecord) → x.entry.rtype < 2 ^ 16 → x.entry.class < 2 ^ 16 → x.entry.ttl < 2 ^ 32 → length x.octets < 2 ^ 64 → EachValue (IsSound most) (record_members x)
  record_sound x t c l short =
      let octets = up_to_rdata_end x.octets x.entry in
      let rdata = rdata_octets x in
      let size : length (rdata_octets x) < 2 ^ 64 = omega (arith, length-drop x.entry.rdata_start octets, length-take x.entry.rdata_end x.octets) in
      each_append (IsSound most) (owner_members x.entry.owner x.entry.rtype x.entry.class) (after_class x) (owner_sound x.entry.owner x.entry.rtype x.entry.class t c) (
        number_sound most (ttl_text x.entry.ttl) (ttl_number x.entry.ttl l),
        each_append (IsSound most) (rdata_members rdata) (text_members x.entry.rtype (presentation x)) (numeral_sound most (length rdata) size, (string_sound most (hex_text rdata), tt))
            (text_sound x.entry.rtype (presentation x)),
      )

-- P holds of each entry that can be read
abbrev EachRead : {X : Type 0} → (X → Type 0) → List (Result X Fault) → Type 0
EachRead P [] = ⊤
EachRead P (Ok x ∷ xs) = P x × EachRead P xs
EachRead P (Err f ∷ xs) = EachRead P xs

module _ {X : Type 0} (Reads : ℕ → ℕ → X → Type 0) (FaultOf : ℕ → Fault → Type 0) (P : X → Type 0) (read : (p q : ℕ) (x : X) → Reads p q x → P x) where
  -- what holds of each entry that can be read holds of those of a reading
  each_read : {n p : ℕ} {xs : List (Result X Fault)} → Reading Reads FaultOf n p xs → EachRead P xs
  each_read none = tt
  each_read (entry h r) = (read _ _ _ h, each_read r)
  each_read (stop h) = tt

-- the array of these entries
entries_sound : {X : Type 0} (json : X → Json) (xs : List (Result X Fault)) → EachRead (λ x. IsSound 1 (json x)) xs → EachItem (IsSound 1) (map json (readable xs))
entries_sound json [] h = tt
entries_sound json (Ok x ∷ xs) h = (h.0, entries_sound json xs h.1)
entries_sound json (Err f ∷ xs) h = entries_sound json xs h

within : (b : List ℕ) (P : EncodedRecord → Type 0) (xs : List (Result RecordEntry Fault)) → EachRead (λ x. P (record { octets = b; entry = x })) xs → EachRead P (map (in_octets b) xs)
within b P [] h = tt
within b P (Ok x ∷ xs) h = (h.0, within b P xs h.1)
within b P (Err f ∷ xs) h = within b P xs h

module _ (b : List ℕ) (are : AreMessage b) where
  -- the type and class of a question that is read
  question_fits : (p q : ℕ) (x : QuestionItem) → ReadsQuestion b p q x → (x.rtype < 2 ^ 16) × (x.class < 2 ^ 16)
  question_fits p q x reads =
      let t = number_16 b reads.skips.name_end are.below in
      let c = number_16 b (reads.skips.name_end + 2) are.below in
      (omega (arith, reads.rtype, t), omega (arith, reads.class, c))

  -- a question and a record that are read
  question_is_sound : (p q : ℕ) (x : QuestionItem) → ReadsQuestion b p q x → IsSound 1 (question_json x)
  question_is_sound p q x reads = let fits = question_fits p q x reads in object_sound 0 (owner_members x.name x.rtype x.class) (owner_sound 0 x.name x.rtype x.class fits.0 fits.1)

  record_is_sound : (p q : ℕ) (x : RecordEntry) → ReadsRecord b p q x → IsSound 1 (record_json (record { octets = b; entry = x }))
  record_is_sound p q x reads =
      let t = number_16 b reads.skips.name_end are.below in
      let c = number_16 b (reads.skips.name_end + 2) are.below in
      let l = number_32 b (reads.skips.name_end + 4) are.below in
      let e : EncodedRecord = record { octets = b; entry = x } in
      object_sound 0 (record_members e) (record_sound 0 e (omega (arith, reads.rtype, t)) (omega (arith, reads.class, c)) (omega (arith, reads.ttl, l)) are.short)

  questions_sound : IsSound 2 (entries_json question_json (questions_of b))
  questions_sound =
      array_sound 1 (question_items b) (entries_sound question_json (questions_of b)
      (each_read (ReadsQuestion b) (QuestionFaultAt b) (λ x. IsSound 1 (question_json x)) question_is_sound ((questions_from_are_read b).reading (question_count b) header_size)))

  records_sound : (n p : ℕ) → IsSound 2 (entries_json record_json (records_in b n p))
  unfolding records_in
  records_sound n p =
      array_sound 1 (record_items (records_in b n p)) (entries_sound record_json (records_in b n p)
      (within b (λ x. IsSound 1 (record_json x)) (records_from b n p)
      (each_read (ReadsRecord b) (RecordFaultAt b) (λ x. IsSound 1 (record_json (record { octets = b; entry = x }))) record_is_sound ((records_from_are_read b).reading n p))))

  section_sound : (which : Section) (n : ℕ) (start : Option ℕ) → EachValue (IsSound 2) (section_members which (option_map (records_in b n) start))
  section_sound which n None = tt
  section_sound which n (Some p) = (records_sound n p, tt)

  -- the first question of a reading
  asked_sound : (xs : List (Result QuestionItem Fault)) → EachRead (λ x. (x.rtype < 2 ^ 16) × (x.class < 2 ^ 16)) xs → EachValue (IsSound 2) (asked_members (first_value xs))
  asked_sound [] h = tt
  asked_sound (Ok q ∷ xs) h = (
    string_sound 2 (zone_name_text q.name),
    each_append (IsSound 2) (asked_type q) (asked_class q) (named_sound 2 (codes "QTYPE") (codes "QTYPEname") (type_word q.rtype) q.rtype h.0.0)
        (named_sound 2 (codes "QCLASS") (codes "QCLASSname") (class_text q.class) q.class h.0.1),
  )
  asked_sound (Err f ∷ xs) h = tt

  octets_sound : (whole : Bool) (octets : List ℕ) → EachValue (IsSound 2) (if whole then [] else (codes "messageOctetsHEX", string octets) ∷ [])
  octets_sound true octets = tt
  octets_sound false octets = (string_sound 2 octets, tt)

  head_sound : EachValue (IsSound 2) (head_members b)
  head_sound =
      let header = is_header (take 4 b) (record { length = length-take-le 4 b (omega (arith, are.long)); below = All-take (λ (octet : ℕ). octet < 256) 4 b are.below }) in
      each_append (IsSound 2) (header_members (fields_in (take 4 b))) (count_members (counts_of b)) (header_sound 2 (fields_in (take 4 b)) header)
      (counts_sound 2 (counts_of b) (number_16 b 4 are.below) (number_16 b 6 are.below) (number_16 b 8 are.below) (number_16 b 10 are.below))

  body_sound : EachValue (IsSound 2) (body_members b)
  body_sound =
      let sections =
      each_append (IsSound 2) (answers b) (authorities b ++ additionals b) (section_sound Answer (record_count Answer b) (start_of Answer b))
      (each_append (IsSound 2) (authorities b) (additionals b) (section_sound Authority (record_count Authority b) (start_of Authority b))
      (section_sound Additional (record_count Additional b) (start_of Additional b))) in
      each_append (IsSound 2) (asked_members (asked_first b)) (after_asked b) (asked_sound (questions_of b)
      (each_read (ReadsQuestion b) (QuestionFaultAt b) (λ x. (x.rtype < 2 ^ 16) × (x.class < 2 ^ 16)) question_fits ((questions_from_are_read b).reading (question_count b) header_size)))
      (questions_sound, each_append (IsSound 2) (sections_members b) (octets_members b) sections (octets_sound (is_whole b) (hex_text b)))

  -- The value of a message can be read back.
  pub message_sound : IsSound 3 (message_json b)
  message_sound = object_sound 2 (head_members b ++ body_members b) (each_append (IsSound 2) (head_members b) (body_members b) head_sound body_sound)

-- The text of each message is a JSON text, and what is read of it is the value of the message.
pub texts_are_json : TextsAreJson
texts_are_json b are =
    let sound = message_sound b are in
    document-print (message_json b) sound.numbers (omega (arith, sound.shallow))

-- So is the text of octets that are too few for a message.
pub octets_are_json : OctetsAreJson
octets_are_json b =
    let sound : IsSound 1 (octets_json b) = object_sound 0 ((codes "messageOctetsHEX", string (hex_text b)) ∷ []) (string_sound 0 (hex_text b), tt) in
    document-print (octets_json b) sound.numbers (omega (arith, sound.shallow))
