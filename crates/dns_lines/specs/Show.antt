-- What is printed of a message: its header, its counts, and a line for each item. RFC 1035 sections 4.1 and 5.1, RFC 3597 section 5.
--
-- `b` is the octets of the message.
use Rattle.std.specs.Prelude.{ℕ, ◌+◌, ◌≤◌, if◌then◌else◌, List, [], ◌∷◌, ◌++◌, take, slice_index, drop, Option, Some, None, Result, Ok, Err, codes, decimal}
use Rattle.std.specs.Int.{w32}
use Rattle.std.specs.List.{flat_map}
use Rattle.std.specs.Option.{option_and_then}
use Rattle.std.specs.Result.{result_ok}
use Rattle.dns_name.specs.Names.{Fault}
use Rattle.dns_name.specs.NameTexts.{name_text}
use Rattle.dns_name.specs.Parsers.{number_at}
use Rattle.dns_wire.specs.Parts.{Part}
use Rattle.dns_wire.specs.Parts.Part.{Octets, CompressibleName}
use Rattle.dns_code.specs.Flags.{flags_text}
use Rattle.dns_code.specs.Header.{HeaderFields, fields_in, flags_in}
use Rattle.dns_code.specs.HeaderCounts.{Counts}
use Rattle.dns_data.specs.Layout.{Layout}
use Rattle.dns_data.specs.Printing.{opaque_text}
use Rattle.dns_item.specs.Question.{fields_text}
use Rattle.dns_item.specs.Questions.{QuestionItem}
use Rattle.dns_item.specs.Items.{ReadsRecord}
use Rattle.dns_item.specs.ParsedRecord.{EncodedRecord}
use Rattle.dns_item.specs.RecordPrinting.{record_fields_text}
use Rattle.dns_item.specs.RecordReading.{up_to_rdata_end}
use Rattle.dns_item.specs.TypedRecords.{data_in}
use Rattle.dns_read.specs.RecordsFrom.{records_in}
use Rattle.dns_read.specs.SectionStarts.{start_of}
use Rattle.dns_read.specs.Searches.{questions_of}
use Rattle.dns_read.specs.Sections.{question_count, answer_count, authority_count, additional_count, record_count}
use Rattle.dns_read.specs.declared.section.Section.{Section}
use Rattle.dns_read.specs.declared.section.Section.TheVariants.{Answer, Authority, Additional}
use Rattle.dns_lines.specs.KnownData.{known_layout}

-- a text and a line feed
abbrev pub line : List ℕ → List ℕ
line text = text ++ 10 ∷ []

-- the line of a header
abbrev pub header_line : HeaderFields → List ℕ
header_line f =
    line (
    codes "header id=" ++ decimal f.id ++ codes " opcode=" ++ decimal f.opcode ++ codes " rcode=" ++ decimal f.rcode
    ++ codes " z=" ++ decimal (if f.z then 1 else 0) ++ codes " flags=" ++ flags_text (flags_in f)
    )

-- the line of the four counts
abbrev pub counts_line : Counts → List ℕ
counts_line c =
    line (codes "counts " ++ decimal c.qdcount ++ codes " " ++ decimal c.ancount ++ codes " " ++ decimal c.nscount ++ codes " " ++ decimal c.arcount)

-- the line of an item of the question section: a question, or an error
abbrev pub question_line : Result QuestionItem Fault → List ℕ
question_line (Ok q) = line (codes "question " ++ fields_text (name_text q.name) q.rtype q.class)
question_line (Err f) = line (codes "question error")

-- the parts of a record's RDATA by this layout; none if the RDATA is malformed
abbrev pub data_parts : EncodedRecord → Layout → Option (List Part)
data_parts x layout = result_ok (data_in x layout)

-- four octets as an IPv4 address
abbrev pub address_octets_text : List ℕ → List ℕ
address_octets_text octets =
    decimal (slice_index octets 0) ++ codes "." ++ decimal (slice_index octets 1) ++ codes "." ++ decimal (slice_index octets 2) ++ codes "." ++ decimal (slice_index octets 3)

-- twenty octets as five numbers
abbrev pub zone_numbers_text : List ℕ → List ℕ
zone_numbers_text octets =
    let number = λ (k : ℕ). decimal (number_at w32 octets k) in
    number 0 ++ codes " " ++ number 4 ++ codes " " ++ number 8 ++ codes " " ++ number 12 ++ codes " " ++ number 16

-- the text of parts: an address, a name, or two names and five numbers
abbrev pub parts_text : List Part → List ℕ
parts_text (Octets octets ∷ []) = address_octets_text octets
parts_text (CompressibleName name ∷ []) = name_text name ++ codes "."
parts_text (CompressibleName mname ∷ CompressibleName rname ∷ Octets octets ∷ []) =
    name_text mname ++ codes ". " ++ name_text rname ++ codes ". " ++ zone_numbers_text octets
parts_text _ = []

-- the text of a record's RDATA: that of its parts if they are given, else that of its octets
abbrev pub shown_data : EncodedRecord → Option (List Part) → List ℕ
shown_data x (Some parts) = parts_text parts
shown_data x None = opaque_text (drop x.entry.rdata_start (up_to_rdata_end x.octets x.entry))

-- the parts of a record's RDATA; none if its type has no layout, or if the RDATA is malformed
abbrev pub known_parts : EncodedRecord → Option (List Part)
known_parts x = option_and_then (data_parts x) (known_layout x.entry.rtype)

-- the text of a record with the given parts of its RDATA, or with its RDATA as octets
abbrev pub text_with : EncodedRecord → Option (List Part) → List ℕ
text_with x parts = record_fields_text (name_text x.entry.owner) x.entry.ttl x.entry.class x.entry.rtype (shown_data x parts)

-- the text of a record: its RDATA by its fields if its type has a layout and the RDATA is well-formed, else as octets
abbrev pub shown_record : EncodedRecord → List ℕ
shown_record x = text_with x (known_parts x)

-- the word for a section of records
abbrev pub section_word : Section → List ℕ
section_word Answer = codes "answer"
section_word Authority = codes "authority"
section_word Additional = codes "additional"

-- the record can be read from its octets
abbrev pub IsRead : EncodedRecord → Type 0
IsRead x = (p : ℕ) × (q : ℕ) × ReadsRecord x.octets p q x.entry

-- its RDATA has at most 65,535 octets
abbrev pub HasShortData : EncodedRecord → Type 0
HasShortData x = x.entry.rdata_end ≤ x.entry.rdata_start + 65535

-- the line of an item of a section of records, after the section's word: a record, or an error
abbrev pub record_line : List ℕ → Result EncodedRecord Fault → List ℕ
record_line word (Ok x) = line (word ++ codes " " ++ shown_record x)
record_line word (Err f) = line (word ++ codes " error")

-- the line of a section that has no start
abbrev pub missing_line : Section → List ℕ
missing_line section = line (section_word section ++ codes " missing")

module _ (item_text : Section → Result EncodedRecord Fault → List ℕ) (missing_text : Section → List ℕ) where
  -- what is printed from a section on: a text for each of its items, then `after`; if it has no start, a text that says so, and nothing more
  abbrev pub section_text : List ℕ → Section → Option ℕ → List ℕ → List ℕ
  section_text b section (Some start) after = flat_map (item_text section) (records_in b (record_count section b) start) ++ after
  section_text b section None after = missing_text section

  -- the texts of the sections of records, up to the first that has no start
  abbrev pub sections_text : List ℕ → List ℕ
  sections_text b =
      section_text b Answer (start_of Answer b) (section_text b Authority (start_of Authority b) (section_text b Additional (start_of Additional b) []))

-- the lines of the sections of records, up to the first that has no start
abbrev pub records_text : List ℕ → List ℕ
records_text b = sections_text (λ section. record_line (section_word section)) missing_line b

-- the counts of a message
abbrev pub counts_of : List ℕ → Counts
counts_of b = record { qdcount = question_count b; ancount = answer_count b; nscount = authority_count b; arcount = additional_count b }

-- what is printed of a message
abbrev pub message_text : List ℕ → List ℕ
message_text b = header_line (fields_in (take 4 b)) ++ (counts_line (counts_of b) ++ (flat_map question_line (questions_of b) ++ records_text b))
