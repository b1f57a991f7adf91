-- The lines that a message's records have in a zone file. RFC 1035 section 5.1, RFC 3597 section 5.
use Rattle.std.specs.Prelude.{ℕ, ◌==◌, ◌||◌, ◌&&◌, Bool, nat_eq, if◌then◌else◌, List, [], ◌∷◌, ◌++◌, drop, Option, Result, Ok, Err, codes}
use Rattle.std.specs.List.{starts_with}
use Rattle.dns_name.specs.Names.{Fault}
use Rattle.dns_wire.specs.Parts.{Part}
use Rattle.dns_item.specs.ParsedRecord.{EncodedRecord}
use Rattle.dns_item.specs.RecordReading.{up_to_rdata_end}
use Rattle.dns_read.specs.declared.section.Section.{Section}
use Rattle.fields_table.specs.FieldData.{type_layout}
use Rattle.fields_records.specs.RdataTexts.{rdata_text}
use Rattle.fields_records.specs.RecordLines.{record_text}
use Rattle.fields_plain.specs.ZoneNames.{zone_name_text}
use Rattle.dns_lines.specs.Show.{line, data_parts, section_word, sections_text}

-- the line of a record, by the parts of its RDATA
abbrev pub line_with : EncodedRecord → Option (List Part) → List ℕ
line_with x parts = line (record_text (zone_name_text x.entry.owner) x.entry.ttl x.entry.class x.entry.rtype (rdata_text x parts))

-- the octets of a record's RDATA
abbrev pub rdata_octets : EncodedRecord → List ℕ
rdata_octets x = drop x.entry.rdata_start (up_to_rdata_end x.octets x.entry)

-- whether RDATA of type SIG covers the type 0, which no record has: it signs a message (RFC 2931 section 3). The covered type is the first field (RFC 2535 section 4.1.1).
abbrev pub covers_no_type : List ℕ → Bool
covers_no_type octets = starts_with nat_eq octets (0 ∷ 0 ∷ [])

-- Whether a record is of one message, and isn't data of a zone: OPT, 41 (RFC 6891 section 6.1.1); TKEY, 249 (RFC 2930 section 2); TSIG, 250 (RFC 8945 section 4.1); and SIG, 24, that covers no type.
abbrev pub is_of_message : EncodedRecord → Bool
is_of_message x = (x.entry.rtype == 41) || (x.entry.rtype == 249) || (x.entry.rtype == 250) || ((x.entry.rtype == 24) && covers_no_type (rdata_octets x))

-- The line of a record; its RDATA has no parts if it is malformed. A record of one message has none.
abbrev pub record_lines : EncodedRecord → List ℕ
record_lines x = if is_of_message x then [] else line_with x (data_parts x (type_layout x.entry.rtype))

-- the line for a malformed record
abbrev pub malformed_line : Section → List ℕ
malformed_line section = codes ";; malformed record in the " ++ section_word section ++ codes " section\n"

-- what is printed for a record of a section, or for its error
abbrev pub item_lines : Section → Result EncodedRecord Fault → List ℕ
item_lines section (Ok x) = record_lines x
item_lines section (Err f) = malformed_line section

-- the line for a section that has no start
abbrev pub missing_line : Section → List ℕ
missing_line section = codes ";; the " ++ section_word section ++ codes " section has no start\n"

-- the lines of all records of a message, whose octets are b
abbrev pub zone_lines : List ℕ → List ℕ
zone_lines b = sections_text item_lines missing_line b
