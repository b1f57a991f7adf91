-- The `id`s of a page, where its links lead (`link_text` and `field_link_text` of Pages.antt), and the rows that share a line.
use Rattle.std.specs.Prelude.{◌≡◌, ◌≢◌, ℕ, ◌^◌, ◌<◌, ◌≤◌, ◌==◌, not, Bool, true, List, ◌++◌, length, map, filter, flat_map, All, AllPairs}
use Rattle.dnsview_rows.specs.Rows.{row_octets}
use Rattle.dnsview_rows.specs.Tiles.{Tiles}
use Rattle.dnsview_rows.specs.declared.row.Row.{Row}
use Rattle.dnsview_tool.specs.Joined.{joined, line_rows, lines}
use Rattle.dnsview_tool.specs.Pages.{cell_id, limits_words, row_id, words_limit, words_text}

-- whether a row has octets in a message
abbrev pub has_octets : List ℕ → Row → Bool
has_octets message row = not (length (row_octets message row) == 0)

-- the rows of a page that have octets: each has cells and a link of the list
abbrev pub linked_rows : Bool → List ℕ → List Row → List Row
linked_rows brief message rows = filter (has_octets message) (joined brief rows)

-- the `id`s of a page, which may be brief: those of the rows' cells, and those of the rows in the list
abbrev pub page_ids : Bool → List ℕ → List Row → List (List ℕ)
page_ids brief message rows = map cell_id (linked_rows brief message rows) ++ map row_id (linked_rows brief message rows)

-- if rows cover the octets of a message, no two `id`s of their page are equal, so each link leads to one element
abbrev pub IdsAreUnique : Type 0
IdsAreUnique = (brief : Bool) (message : List ℕ) (rows : List Row) → length message < 2 ^ 64 → Tiles rows 0 (length message) → AllPairs (λ one other. one ≢ other) (page_ids brief message rows)

-- the lines of rows have exactly these rows, in order
abbrev pub LinesHaveRows : Type 0
LinesHaveRows = (brief : Bool) (rows : List Row) → flat_map line_rows (lines brief rows) ≡ rows

-- rows within a message have the same octets if those that share a line are one row
abbrev pub JoinedRowsKeepOctets : Type 0
JoinedRowsKeepOctets = (brief : Bool) (message : List ℕ) (rows : List Row) → All (λ row. row.end ≤ length message) rows
    → flat_map (row_octets message) (joined brief rows) ≡ flat_map (row_octets message) rows

-- consecutive rows are consecutive also if those that share a line are one row
abbrev pub JoinedRowsTile : Type 0
JoinedRowsTile = (brief : Bool) (rows : List Row) (start end : ℕ) → Tiles rows start end → Tiles (joined brief rows) start end

-- the words for a row of a brief page, after the header section, take at most 27 octets and nine for each octet of the row, or 60
abbrev pub WordsAreBounded : Type 0
WordsAreBounded = (brief : Bool) (message : List ℕ) (row : Row) (words : List ℕ) → limits_words brief row ≡ true → length (words_text brief message row words) ≤ words_limit (row_octets message row)
