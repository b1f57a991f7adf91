-- The rows of a message: of its header section, of its other fields, of a fault, and of the octets after that. RFC 1035 section 4.1.
use Rattle.std.specs.Prelude.{◌≡◌, ℕ, ◌+◌, ◌≤◌, nat_lt, if◌then◌else◌, List, [], ◌∷◌, ◌++◌, length, Option, Some, None}
use Rattle.dns_code.specs.HeaderSection.{header_size}
use Rattle.dns_read.specs.Sections.{question_count, answer_count, authority_count, additional_count}
use Rattle.dnsview_rows.specs.declared.row.Row.{Row}
use Rattle.dnsview_rows.specs.declared.row.RowKind.TheVariants as kinds
use Rattle.dnsview_rows.specs.declared.row.Part.TheVariants.{Question, Answer, Authority, Additional}
use Rattle.dnsview_rows.specs.declared.row.RowField.TheVariants as fields
use Rattle.dnsview_rows.specs.declared.row.RowFault.{RowFault}
use Rattle.dnsview_rows.specs.Entries.{all_parts, ShowsParts}
use Rattle.dnsview_rows.specs.Fields.{field_row, item_count, AreFields}

-- the row of octets that are fewer than a header section
abbrev pub short_header : ℕ → Row
short_header len = record { start = 0; end = len; kind = kinds.ShortHeader }

-- the six rows of a header section, of 2 octets each. RFC 1035 section 4.1.1.
abbrev pub header_rows : List Row
header_rows =
    field_row 0 2 fields.Id ∷ field_row 2 4 fields.Flags
    ∷ field_row 4 6 (fields.Count Question) ∷ field_row 6 8 (fields.Count Answer) ∷ field_row 8 10 (fields.Count Authority) ∷ field_row 10 12 (fields.Count Additional) ∷ []

-- the row of a fault, which has no octets, if there is one
abbrev pub fault_rows : Option RowFault → ℕ → List Row
fault_rows None offset = []
fault_rows (Some fault) offset = record { start = offset; end = offset; kind = kinds.Fault fault } ∷ []

-- the row of the remaining octets, if there are any
abbrev pub unread_rows : ℕ → ℕ → List Row
unread_rows offset end = if nat_lt offset end then record { start = offset; end = end; kind = kinds.Unread } ∷ [] else []

-- the number of items that the header section of a message counts. RFC 1035 section 4.1.1.
abbrev pub counted_items : List ℕ → ℕ
counted_items b = question_count b + answer_count b + authority_count b + additional_count b

-- n items begin: all of them, or at most all if there is a fault
abbrev pub Begins : Option RowFault → ℕ → ℕ → Type 0
Begins None n all = n ≡ all
Begins (Some fault) n all = n ≤ all

-- The rows of a message: those of its header section, those of the fields from there to `offset`, that of a fault at `offset`, if there is one, and that of the
-- remaining octets. The fields are those of the readings of the four sections, in order, up to the fault. If there is no fault, each item that the header
-- section counts begins at a row.
pub record ShowsMessage (b : List ℕ) (rows : List Row) : Type 0 where
  pub others : List Row
  pub stop : Option RowFault
  pub offset : ℕ
  pub made : rows ≡ header_rows ++ others ++ (fault_rows stop offset ++ unread_rows offset (length b))
  pub fields : AreFields others header_size offset
  pub within : offset ≤ length b
  pub items : Begins stop (item_count others) (counted_items b)
  pub parts : ShowsParts b all_parts stop header_size offset others
