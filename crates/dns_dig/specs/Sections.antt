-- The sections of a message as lines below headings. RFC 1035 section 4.1; of an update: RFC 2136 section 2.
use Rattle.std.specs.Prelude.{ℕ, ◌==◌, ◌&&◌, ◌||◌, Bool, true, false, if◌then◌else◌, List, [], ◌∷◌, ◌++◌, map, Option, Some, None, Result, Ok, Err, codes}
use Rattle.std.specs.List.{concat, flat_map}
use Rattle.dns_name.specs.Names.{Fault}
use Rattle.dns_item.specs.ParsedRecord.{EncodedRecord}
use Rattle.dns_item.specs.Questions.{QuestionItem}
use Rattle.dns_read.specs.declared.section.Section.{Section}
use Rattle.dns_read.specs.declared.section.Section.TheVariants.{Answer, Authority, Additional}
use Rattle.dns_lines.specs.ZoneLines.{covers_no_type, malformed_line, missing_line, rdata_octets}
use Rattle.dns_dig.specs.Opt.{is_opt, opt_text}
use Rattle.dns_dig.specs.Records.{question_line, record_line}
use Rattle.dns_dig.specs.declared.signature.Signature.{Signature}
use Rattle.dns_dig.specs.declared.signature.Signature.TheVariants.{Tsig, Sig0}

-- the opcode of an update
abbrev pub is_update : ℕ → Bool
is_update opcode = opcode == 5

-- the heading of the question section, which is the zone of an update
abbrev pub question_heading : ℕ → List ℕ
question_heading opcode = if is_update opcode then codes ";; ZONE SECTION:\n" else codes ";; QUESTION SECTION:\n"

-- the heading of a section of records
abbrev pub query_heading : Section → List ℕ
query_heading Answer = codes ";; ANSWER SECTION:\n"
query_heading Authority = codes ";; AUTHORITY SECTION:\n"
query_heading Additional = codes ";; ADDITIONAL SECTION:\n"

-- the same of an update
abbrev pub update_heading : Section → List ℕ
update_heading Answer = codes ";; PREREQUISITE SECTION:\n"
update_heading Authority = codes ";; UPDATE SECTION:\n"
update_heading Additional = codes ";; ADDITIONAL SECTION:\n"

-- the heading by the opcode
abbrev pub record_heading : ℕ → Section → List ℕ
record_heading opcode section = if is_update opcode then update_heading section else query_heading section

-- lines below a heading, and an empty line after them; nothing if there are no lines
abbrev pub section_text : List ℕ → List (List ℕ) → List ℕ
section_text heading [] = []
section_text heading (line ∷ lines) = heading ++ (concat (line ∷ lines) ++ codes "\n")

-- the line of an item of the question section: a question, or that it is malformed
abbrev pub question_item_line : Result QuestionItem Fault → List ℕ
question_item_line (Ok q) = question_line q
question_item_line (Err f) = codes ";; malformed question in the question section\n"

-- the question section
abbrev pub questions_text : ℕ → List (Result QuestionItem Fault) → List ℕ
questions_text opcode xs = section_text (question_heading opcode) (map question_item_line xs)

-- whether a record signs the message: TSIG, 250 (RFC 8945 section 5.1), or SIG, 24, that covers no type (RFC 2931 section 3)
abbrev pub is_signature : Signature → EncodedRecord → Bool
is_signature Tsig x = x.entry.rtype == 250
is_signature Sig0 x = (x.entry.rtype == 24) && covers_no_type (rdata_octets x)

-- whether it signs the message in either way
abbrev pub signs : EncodedRecord → Bool
signs x = is_signature Tsig x || is_signature Sig0 x

-- whether a record is printed elsewhere: one of the additional section that signs the message is
abbrev pub is_elsewhere : Section → EncodedRecord → Bool
is_elsewhere Additional x = signs x
is_elsewhere section x = false

-- the lines of an item of a section: one of a record, unless it is printed elsewhere, or one that says that a record is malformed
abbrev pub item_lines : Section → Result EncodedRecord Fault → List (List ℕ)
item_lines section (Ok x) = if is_elsewhere section x then [] else record_line x ∷ []
item_lines section (Err f) = malformed_line section ∷ []

-- whether an item is an OPT record that prints by its fields
abbrev pub is_opt_item : Result EncodedRecord Fault → Bool
is_opt_item (Ok x) = is_opt x
is_opt_item (Err f) = false

-- items without the first OPT record
abbrev pub without_opt : List (Result EncodedRecord Fault) → List (Result EncodedRecord Fault)
without_opt [] = []
without_opt (x ∷ xs) = if is_opt_item x then xs else x ∷ without_opt xs

-- items, without the first OPT record if that is printed elsewhere
abbrev pub items_left : Bool → List (Result EncodedRecord Fault) → List (Result EncodedRecord Fault)
items_left elsewhere xs = if elsewhere then without_opt xs else xs

-- whether a section is the additional one, whose first OPT record is printed elsewhere
abbrev pub is_additional : Section → Bool
is_additional Additional = true
is_additional section = false

-- the lines of a section; one that says so if it has no start
abbrev pub section_lines : Section → Option (List (Result EncodedRecord Fault)) → List (List ℕ)
section_lines section None = missing_line section ∷ []
section_lines section (Some xs) = flat_map (item_lines section) (items_left (is_additional section) xs)

-- a section of records
abbrev pub records_text : ℕ → Section → Option (List (Result EncodedRecord Fault)) → List ℕ
records_text opcode section reading = section_text (record_heading opcode section) (section_lines section reading)

-- what is printed of an item before all sections: of an OPT record its fields
abbrev pub opt_item_text : Result EncodedRecord Fault → List ℕ
opt_item_text (Ok x) = if is_opt x then opt_text x else []
opt_item_text (Err f) = []

-- the first OPT record
abbrev pub first_opt_text : List (Result EncodedRecord Fault) → List ℕ
first_opt_text [] = []
first_opt_text (x ∷ xs) = if is_opt_item x then opt_item_text x else first_opt_text xs

-- the heading of a record that signs the message
abbrev pub signature_heading : Signature → List ℕ
signature_heading Tsig = codes ";; TSIG PSEUDOSECTION:\n"
signature_heading Sig0 = codes ";; SIG0 PSEUDOSECTION:\n"

-- a record below the heading, and an empty line
abbrev pub signed_record_text : Signature → EncodedRecord → List ℕ
signed_record_text signature x = signature_heading signature ++ (record_line x ++ codes "\n")

-- a record that signs the message in this way; nothing for another
abbrev pub signature_record_text : Signature → EncodedRecord → List ℕ
signature_record_text signature x = if is_signature signature x then signed_record_text signature x else []

-- what is printed of an item of the additional section after all sections: a record that signs the message
abbrev pub signature_item_text : Signature → Result EncodedRecord Fault → List ℕ
signature_item_text signature (Ok x) = signature_record_text signature x
signature_item_text signature (Err f) = []

-- what is printed of the items of the additional section before all sections, and after them; nothing if it has no start
abbrev pub opts_text : Option (List (Result EncodedRecord Fault)) → List ℕ
opts_text None = []
opts_text (Some xs) = first_opt_text xs

abbrev pub signatures_text : Signature → Option (List (Result EncodedRecord Fault)) → List ℕ
signatures_text signature None = []
signatures_text signature (Some xs) = flat_map (signature_item_text signature) xs
