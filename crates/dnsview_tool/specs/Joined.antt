-- Which rows share a line of a page's list, and a link of its grid. On a brief page more do.
use Rattle.std.specs.Prelude.{ℕ, ◌+◌, ◌/◌, ◌==◌, ◌&&◌, ◌||◌, not, Bool, true, false, nat_le, nat_lt, if◌then◌else◌, List, [], ◌∷◌, map}
use Rattle.dnsview_rows.specs.declared.row.Row.{Row}
use Rattle.dnsview_rows.specs.declared.row.RowField.{RowField}
use Rattle.dnsview_rows.specs.declared.row.RowKind.{RowKind}
use Rattle.dnsview_tool.specs.declared.joined.Line.{Line}
use Rattle.dnsview_rows.specs.declared.row.RowKind.TheVariants as kinds
use Rattle.dnsview_rows.specs.declared.row.RowField.TheVariants as fields

-- whether a row has octets, and another begins where it ends
abbrev pub are_consecutive : Row → Row → Bool
are_consecutive before row = nat_lt before.start before.end && before.end == row.start && nat_le row.start row.end

-- whether two rows begin on the same line of the grid
abbrev pub begin_on_one_line : Row → Row → Bool
begin_on_one_line before row = before.start / 16 == row.start / 16

-- whether two kinds are both that of a label, or of a character string
abbrev pub are_alike : RowKind → RowKind → Bool
are_alike (kinds.Field (fields.Label _)) (kinds.Field (fields.Label _)) = true
are_alike (kinds.Field fields.Text) (kinds.Field fields.Text) = true
are_alike _ _ = false

-- whether a row has at most two octets: a length and at most one octet of a label or character string
abbrev pub is_tiny : Row → Bool
is_tiny row = nat_le row.start row.end && nat_le row.end (row.start + 2)

-- whether a row shares a line of any page: it and the row before it are tiny labels or character strings, and begin on the same line of the grid
abbrev pub shares_tiny_line : Row → Row → Bool
shares_tiny_line before row = are_alike before.kind row.kind && is_tiny before && is_tiny row && begin_on_one_line before row

-- whether a field begins a line: one of the header section, an item, a pointer, which has an arrow, or an option
abbrev pub field_begins_line : RowField → Bool
field_begins_line fields.Id = true
field_begins_line fields.Flags = true
field_begins_line (fields.Count _) = true
field_begins_line (fields.Item _ _) = true
field_begins_line (fields.Pointer _ _) = true
field_begins_line fields.OptionCode = true
field_begins_line _ = false

-- whether a row begins a line: one of these fields, or no field
abbrev pub begins_line : RowKind → Bool
begins_line (kinds.Field field) = field_begins_line field
begins_line _ = true

-- whether a row shares a line of a brief page: with all fields that begin no line; of labels, or character strings, those that begin on the same line of the grid
abbrev pub shares_long_line : Row → Row → Bool
shares_long_line before row = not (begins_line row.kind) && (not (are_alike before.kind row.kind) || begin_on_one_line before row)

-- whether a row shares the line of the row before it on a page, which may be brief
abbrev pub shares_line : Bool → Row → Row → Bool
shares_line brief before row = are_consecutive before row && (if brief then shares_long_line before row else shares_tiny_line before row)

-- a line of a page: its first row, and the others that share it, in order
pub record PageLine : Type 0 where
  pub first : Row
  pub others : List Row

-- a `Line` of the code as a line of a page
abbrev pub line_of : Line → PageLine
line_of line = record { first = line.first; others = line.others.now }

-- All rows of a line, in order. In `lines` each but the last has octets, and the next begins where it ends (`are_consecutive`).
abbrev pub line_rows : PageLine → List Row
line_rows line = line.first ∷ line.others

-- where the last of a row and the rows after it ends
abbrev pub last_end : Row → List Row → ℕ
last_end row [] = row.end
last_end row (next ∷ rows) = last_end next rows

-- a line as one row, of the first one's kind
abbrev pub line_row : PageLine → Row
line_row line = record line.first { end = last_end line.first line.others }

-- a row before lines: it begins the first of them if that line's first row shares a line with it, else a line of its own
abbrev pub with_row : Bool → Row → List PageLine → List PageLine
with_row brief row [] = record { first = row; others = [] } ∷ []
with_row brief row (line ∷ lines) = if shares_line brief row line.first then record { first = row; others = line_rows line } ∷ lines else record { first = row; others = [] } ∷ line ∷ lines

-- the lines of rows
abbrev pub lines : Bool → List Row → List PageLine
lines brief [] = []
lines brief (row ∷ rows) = with_row brief row (lines brief rows)

-- rows, where those that share a line are one row
abbrev pub joined : Bool → List Row → List Row
joined brief rows = map line_row (lines brief rows)
