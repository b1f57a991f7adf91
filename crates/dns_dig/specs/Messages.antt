-- What `dig` of BIND 9.18 prints of a message: its header, what its OPT record says, its sections and its signature. RFC 1035 section 4.1.
--
-- `b` is the octets of the message.
use Rattle.std.specs.Prelude.{ℕ, List, ◌++◌, take}
use Rattle.dns_code.specs.Header.{fields_in}
use Rattle.dns_read.specs.Searches.{questions_of}
use Rattle.dns_read.specs.declared.section.Section.TheVariants.{Answer, Authority, Additional}
use Rattle.dns_json.specs.Messages.{reading_of}
use Rattle.dns_dig.specs.Header.{header_text}
use Rattle.dns_dig.specs.Sections.{opts_text, questions_text, records_text, signatures_text}
use Rattle.dns_dig.specs.declared.signature.Signature.TheVariants.{Tsig, Sig0}

-- the opcode
abbrev pub opcode_of : List ℕ → ℕ
opcode_of b = (fields_in (take 4 b)).opcode

-- the sections of records
abbrev pub record_sections_text : List ℕ → List ℕ
record_sections_text b =
    records_text (opcode_of b) Answer (reading_of Answer b)
    ++ (records_text (opcode_of b) Authority (reading_of Authority b) ++ records_text (opcode_of b) Additional (reading_of Additional b))

-- the four sections
abbrev pub sections_text : List ℕ → List ℕ
sections_text b = questions_text (opcode_of b) (questions_of b) ++ record_sections_text b

-- the records that sign the message
abbrev pub signed_text : List ℕ → List ℕ
signed_text b = signatures_text Tsig (reading_of Additional b) ++ signatures_text Sig0 (reading_of Additional b)

-- the message: its header, its OPT record, its sections and the records that sign it
abbrev pub dig_text : List ℕ → List ℕ
dig_text b = header_text b ++ (opts_text (reading_of Additional b) ++ (sections_text b ++ signed_text b))
