-- A message as a JSON value. RFC 8427 sections 2.1 and 2.4.
--
-- `b` is the octets of the message.
use Rattle.std.specs.Prelude.{ℕ, Bool, false, ◌==◌, ◌&&◌, if◌then◌else◌, List, [], ◌∷◌, ◌++◌, length, take, Option, Some, None, option_map, Result, codes}
use Rattle.json.specs.Json.{Json, string}
use Rattle.dns_name.specs.Names.{Fault}
use Rattle.dns_code.specs.Header.{fields_in}
use Rattle.dns_item.specs.ParsedRecord.{EncodedRecord}
use Rattle.dns_item.specs.Questions.{QuestionItem}
use Rattle.dns_read.specs.RecordsFrom.{records_in}
use Rattle.dns_read.specs.Searches.{asked_first, questions_of}
use Rattle.dns_read.specs.SectionStarts.{start_of}
use Rattle.dns_read.specs.Sections.{record_count}
use Rattle.dns_read.specs.declared.section.Section.{Section}
use Rattle.dns_read.specs.declared.section.Section.TheVariants.{Answer, Authority, Additional}
use Rattle.dns_lines.specs.Show.{counts_of}
use Rattle.fields_plain.specs.ZoneNames.{zone_name_text}
use Rattle.json_print.specs.Texts.{json_text}
use Rattle.json_print.specs.Values.{Member, object_of}
use Rattle.dns_json.specs.Entries.{end_of, entries_json, is_readable}
use Rattle.dns_json.specs.Header.{header_members, count_members, type_members, class_members, owner_members}
use Rattle.dns_json.specs.Records.{hex_text, record_json}

-- the members for the first question, if there is one and it can be read
abbrev pub asked_members : Option QuestionItem → List Member
asked_members None = []
asked_members (Some q) =
    (codes "QNAME", string (zone_name_text q.name)) ∷ (type_members (codes "QTYPE") (codes "QTYPEname") q.rtype ++ class_members (codes "QCLASS") (codes "QCLASSname") q.class)

-- a question as an object
abbrev pub question_json : QuestionItem → Json
question_json q = object_of (owner_members q.name q.rtype q.class)

-- the reading of a section of records; none if it has no start
abbrev pub reading_of : Section → List ℕ → Option (List (Result EncodedRecord Fault))
reading_of which b = option_map (records_in b (record_count which b)) (start_of which b)

-- the name of the member for a section of records
abbrev pub section_name : Section → List ℕ
section_name Answer = codes "answerRRs"
section_name Authority = codes "authorityRRs"
section_name Additional = codes "additionalRRs"

-- the member for a section of records that has a start: the records that can be read
abbrev pub section_members : Section → Option (List (Result EncodedRecord Fault)) → List Member
section_members which None = []
section_members which (Some xs) = (section_name which, entries_json record_json xs) ∷ []

-- the members for the sections of records
abbrev pub sections_members : List ℕ → List Member
sections_members b =
    section_members Answer (reading_of Answer b) ++ (section_members Authority (reading_of Authority b) ++ section_members Additional (reading_of Additional b))

-- the offset after the last record, if the additional section has a start
abbrev pub records_end : List ℕ → Option ℕ
records_end b = option_map (λ p. end_of p (records_in b (record_count Additional b) p)) (start_of Additional b)

-- whether octets end there
abbrev pub ends_at : Option ℕ → ℕ → Bool
ends_at None len = false
ends_at (Some end) len = end == len

-- whether each section has a start, each entry can be read, and no octets follow the last
abbrev pub is_whole : List ℕ → Bool
is_whole b =
    is_readable (Some (questions_of b)) && is_readable (reading_of Answer b) && is_readable (reading_of Authority b) && is_readable (reading_of Additional b)
    && ends_at (records_end b) (length b)

-- all octets of the message, unless the other members have them
abbrev pub octets_members : List ℕ → List Member
octets_members b = if is_whole b then [] else (codes "messageOctetsHEX", string (hex_text b)) ∷ []

-- the members for the sections, and the octets
abbrev pub body_members : List ℕ → List Member
body_members b = asked_members (asked_first b) ++ ((codes "questionRRs", entries_json question_json (questions_of b)) ∷ (sections_members b ++ octets_members b))

-- the members for the header and the counts
abbrev pub head_members : List ℕ → List Member
head_members b = header_members (fields_in (take 4 b)) ++ count_members (counts_of b)

-- a message as an object
abbrev pub message_json : List ℕ → Json
message_json b = object_of (head_members b ++ body_members b)

-- its text
abbrev pub message_json_text : List ℕ → List ℕ
message_json_text b = json_text (message_json b)

-- octets that are fewer than a header section, as an object with nothing else, and its text
abbrev pub octets_json : List ℕ → Json
octets_json b = object_of ((codes "messageOctetsHEX", string (hex_text b)) ∷ [])

abbrev pub octets_json_text : List ℕ → List ℕ
octets_json_text b = json_text (octets_json b)
