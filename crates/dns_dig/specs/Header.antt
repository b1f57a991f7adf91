-- The lines of a header. RFC 1035 section 4.1.1.
--
-- `b` is the octets of the message.
use Rattle.std.specs.Prelude.{ℕ, ◌-◌, ◌==◌, ◌&&◌, not, Bool, if◌then◌else◌, List, [], ◌∷◌, ◌++◌, length, take, Option, Some, None, option_and_then, Result, Ok, Err, codes, decimal}
use Rattle.std.specs.Option.{option_map_or}
use Rattle.dns_name.specs.Names.{Fault}
use Rattle.dns_code.specs.Header.{HeaderFields, fields_in}
use Rattle.dns_code.specs.HeaderCounts.{Counts}
use Rattle.dns_item.specs.ParsedRecord.{EncodedRecord}
use Rattle.dns_read.specs.OptSearches.{opt_rcode_of}
use Rattle.dns_read.specs.RecordsFrom.{records_in}
use Rattle.dns_read.specs.SectionStarts.{start_of}
use Rattle.dns_read.specs.Sections.{record_count}
use Rattle.dns_read.specs.declared.section.Section.TheVariants.{Additional}
use Rattle.dns_lines.specs.Show.{counts_of}
use Rattle.dns_dig.specs.Words.{opcode_word, rcode_word}

-- a text, if a flag is set
abbrev pub if_set : Bool → List ℕ → List ℕ
if_set flag text = if flag then text else []

-- the opcode, the RCODE and the ID
abbrev pub status_line : HeaderFields → ℕ → List ℕ
status_line f rcode =
    codes ";; ->>HEADER<<- opcode: " ++ (opcode_word f.opcode ++ (codes ", status: " ++ (rcode_word rcode ++ (codes ", id: " ++ (decimal f.id ++ codes "\n")))))

-- QR, AA, TC and RD if they are set, each after a space
abbrev pub first_flags_text : HeaderFields → List ℕ
first_flags_text f = if_set f.qr (codes " qr") ++ (if_set f.aa (codes " aa") ++ (if_set f.tc (codes " tc") ++ if_set f.rd (codes " rd")))

-- RA, AD and CD, and Z
abbrev pub answer_flags_text : HeaderFields → List ℕ
answer_flags_text f = if_set f.ra (codes " ra") ++ (if_set f.ad (codes " ad") ++ (if_set f.cd (codes " cd") ++ if_set f.z (codes "; MBZ: 0x4")))

-- the flags
abbrev pub flags_text : HeaderFields → List ℕ
flags_text f = first_flags_text f ++ answer_flags_text f

-- the counts of questions and answers
abbrev pub first_counts_text : Counts → List ℕ
first_counts_text c = codes "; QUERY: " ++ (decimal c.qdcount ++ (codes ", ANSWER: " ++ decimal c.ancount))

-- the counts of authorities and additional records
abbrev pub last_counts_text : Counts → List ℕ
last_counts_text c = codes ", AUTHORITY: " ++ (decimal c.nscount ++ (codes ", ADDITIONAL: " ++ decimal c.arcount))

-- the counts, at the end of their line
abbrev pub counts_text : Counts → List ℕ
counts_text c = first_counts_text c ++ (last_counts_text c ++ codes "\n")

-- the flags and the counts
abbrev pub flags_line : HeaderFields → Counts → List ℕ
flags_line f c = codes ";; flags:" ++ (flags_text f ++ counts_text c)

-- whether a response says that recursion isn't available, which was desired
abbrev pub lacks_recursion : HeaderFields → Bool
lacks_recursion f = f.qr && f.rd && not f.ra

-- the warning of that
abbrev pub recursion_warning : HeaderFields → List ℕ
recursion_warning f = if_set (lacks_recursion f) (codes ";; WARNING: recursion requested but not available\n")

-- where records end that begin at this offset; none if one can't be read
abbrev pub end_of : ℕ → List (Result EncodedRecord Fault) → Option ℕ
end_of start [] = Some start
end_of start (Ok x ∷ xs) = end_of x.entry.rdata_end xs
end_of start (Err f ∷ xs) = None

-- where the message ends: after its additional section; none if that has no start, or a record in it can't be read
abbrev pub message_end : List ℕ → Option ℕ
message_end b = option_and_then (λ start. end_of start (records_in b (record_count Additional b) start)) (start_of Additional b)

-- the number of octets after the message; 0 if it has no end
abbrev pub extra_octets : List ℕ → ℕ
extra_octets b = option_map_or (λ end. length b - end) (message_end b) 0

-- octets follow the message
abbrev pub extra_warning : ℕ → List ℕ
extra_warning extra = if extra == 0 then [] else codes ";; WARNING: Message has " ++ (decimal extra ++ codes " extra bytes at end\n")

-- the lines of the header, the warnings, and an empty line
abbrev pub header_text : List ℕ → List ℕ
header_text b =
    let f = fields_in (take 4 b) in
    status_line f (opt_rcode_of b) ++ (flags_line f (counts_of b) ++ (recursion_warning f ++ (extra_warning (extra_octets b) ++ codes "\n")))
