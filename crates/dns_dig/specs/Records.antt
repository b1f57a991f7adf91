-- The lines of questions and records. RFC 1035 section 5.1.
use Rattle.std.specs.Prelude.{ℕ, List, [], ◌∷◌, ◌++◌, codes, decimal}
use Rattle.dns_name.specs.Names.{Labels}
use Rattle.dns_item.specs.ParsedRecord.{EncodedRecord}
use Rattle.dns_item.specs.Questions.{QuestionItem}
use Rattle.fields_plain.specs.TypeNames.{class_word, type_word}
use Rattle.fields_plain.specs.ZoneNames.{zone_name_text}
use Rattle.fields_records.specs.RdataTexts.{rdata_text}
use Rattle.fields_table.specs.FieldData.{type_layout}
use Rattle.dns_lines.specs.Show.{data_parts}
use Rattle.dns_dig.specs.Columns.{row}

-- the name, the class and the type of a question
abbrev pub question_row : QuestionItem → List ℕ
question_row q = row (zone_name_text q.name) ((32, class_word q.class) ∷ (40, type_word q.rtype) ∷ [])

-- its line, which begins with a semicolon
abbrev pub question_line : QuestionItem → List ℕ
question_line q = codes ";" ++ (question_row q ++ codes "\n")

-- what precedes the RDATA of a record: its owner, TTL, class and type, each with its gap, and the gap of the RDATA
abbrev pub record_front : Labels → ℕ → ℕ → ℕ → List ℕ
record_front owner ttl class rtype =
    row (zone_name_text owner) ((24, decimal ttl) ∷ (32, class_word class) ∷ (40, type_word rtype) ∷ (48, []) ∷ [])

-- the text of RDATA: its fields if it is well-formed, else its octets
abbrev pub record_data : EncodedRecord → List ℕ
record_data x = rdata_text x (data_parts x (type_layout x.entry.rtype))

-- the line of a record
abbrev pub record_line : EncodedRecord → List ℕ
record_line x = record_front x.entry.owner x.entry.ttl x.entry.class x.entry.rtype ++ (record_data x ++ codes "\n")
