-- What is printed for the addresses of a message. RFC 1035 sections 3.4.1 and 4.1.
use Rattle.std.specs.Prelude.{ℕ, List, [], ◌∷◌, ◌++◌, slice_index, Option, Some, None, Result, Ok, Err, codes, decimal}
use Rattle.std.specs.List.{flat_map}
use Rattle.dns_message.specs.Names.{Fault, name_text}
use Rattle.dns_message.specs.Data.{Part, Octets, CompressibleName, UncompressedName, Layout, Fixed, End, only}
use Rattle.dns_message.specs.Records.{RecordItem}
use Rattle.dns_message.specs.Sections.{limited}
use Rattle.dns_message.specs.declared.message.Section.TheVariants.{Answer}
use Rattle.dns_message.specs.Messages.{records_of, start_of}

-- the RDATA of an A record, whose type is 1: four octets
abbrev pub a_layout : ℕ → Option Layout
a_layout = only 1 (Fixed 4 End)

-- an address: its four octets as decimal numbers, separated by dots
abbrev pub dotted : List Part → List ℕ
dotted [] = []
dotted (CompressibleName name ∷ parts) = []
dotted (UncompressedName lowercased name ∷ parts) = []
dotted (Octets octets ∷ parts) =
    let number = λ (k : ℕ). decimal (slice_index octets k) in number 0 ++ codes "." ++ number 1 ++ codes "." ++ number 2 ++ codes "." ++ number 3

-- the line of an A record: its owner and its address; or that the record is malformed
abbrev pub address_line : Result RecordItem Fault → List ℕ
address_line (Ok x) = name_text x.owner ++ codes " " ++ dotted x.parts ++ codes "\n"
address_line (Err f) = codes "malformed record\n"

-- A line for each item: an A record, or one that is malformed. Without a start of the section, a line that says so.
abbrev pub lines_from : Option ℕ → List (Result RecordItem Fault) → List ℕ
lines_from (Some start) records = flat_map address_line records
lines_from None records = codes "malformed question\n"

-- What is printed of a message: a line for each A record of its answer section, in order, up to the first record that can't be read, which has a line too. If a
-- question can't be skipped, one line says that.
abbrev pub addresses_text : List ℕ → List ℕ
addresses_text b = lines_from (start_of Answer b) (limited a_layout (records_of Answer b))
