-- What the OPT record of a message says, as a function of the reading of its additional section. RFC 6891 section 6.1.
--
-- `b` is the octets of the message.
use Rattle.std.specs.Prelude.{ℕ, ◌+◌, ◌*◌, List, [], ◌∷◌, take, Option, Some, None, option_map, option_and_then, Result}
use Rattle.dns_name.specs.Names.{Fault}
use Rattle.dns_wire.specs.Parts.{Part}
use Rattle.dns_wire.specs.Parts.Part.{Octets, CompressibleName, UncompressedName}
use Rattle.dns_code.specs.Header.{fields_in}
use Rattle.dns_data.specs.Opt.{opt_layout}
use Rattle.dns_data.specs.RecordData.{only}
use Rattle.dns_item.specs.Items.{RecordItem}
use Rattle.dns_item.specs.OptRecord.{OptItem, opt_item_in}
use Rattle.dns_item.specs.ParsedRecord.{EncodedRecord}
use Rattle.dns_read.specs.Limited.{limited}
use Rattle.dns_read.specs.declared.section.Section.TheVariants.{Additional}
use Rattle.dns_read.specs.Searches.{first_value}
use Rattle.dns_read.specs.SectionStarts.{records_of}

-- the first OPT record of a reading; none if the reading's fault comes first, or if the RDATA of the record is malformed
abbrev pub first_opt_in : List (Result EncodedRecord Fault) → Option RecordItem
first_opt_in xs = first_value (limited (only 41 opt_layout) xs)

-- the first OPT record of the additional section
abbrev pub first_opt : List ℕ → Option RecordItem
first_opt b = first_opt_in (records_of Additional b)

-- the octets of record data that is octets alone, without names
abbrev pub only_octets : List Part → Option (List ℕ)
only_octets [] = None
only_octets (CompressibleName name ∷ parts) = None
only_octets (UncompressedName lowercased name ∷ parts) = None
only_octets (Octets octets ∷ []) = Some octets
only_octets (Octets octets ∷ part ∷ parts) = None

-- a record as an OPT record: its class, its TTL, and the options that its RDATA is
abbrev pub opt_said : RecordItem → Option OptItem
opt_said x = option_map (opt_item_in x.class x.ttl) (only_octets x.parts)

-- the OPT record of a message, if there is one
abbrev pub opt_of : List ℕ → Option OptItem
opt_of b = option_and_then opt_said (first_opt b)

-- the RCODE of a header, extended by the higher 8 bits that the OPT record holds, if there is one: RFC 6891 section 6.1.3
abbrev pub extended_rcode : Option OptItem → ℕ → ℕ
extended_rcode None rcode = rcode
extended_rcode (Some opt) rcode = opt.fields.ext * 16 + rcode

-- the RCODE of a message, extended by its OPT record
abbrev pub opt_rcode_of : List ℕ → ℕ
opt_rcode_of b = extended_rcode (opt_of b) (fields_in (take 4 b)).rcode
