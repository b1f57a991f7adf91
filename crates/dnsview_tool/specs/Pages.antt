-- What `print_page` prints for rows. The words for their meanings, and those of the title, are left open, but they are printable ASCII.
use Rattle.std.specs.Prelude.{◌≡◌, ℕ, ◌<◌, ◌≤◌, true, false, ◌+◌, ◌-◌, ◌*◌, ◌/◌, ◌%◌, ◌==◌, ◌&&◌, nat_le, nat_lt, max, take, Bool, if◌then◌else◌, List, [], ◌∷◌, ◌++◌, length, count_by, codes, decimal}
use Rattle.std.specs.List.{concat, enumerate_from, flat_map, AllZip}
use Rattle.dns_code.specs.HeaderSection.{header_size}
use Rattle.dnsview_rows.specs.Rows.{is_item, is_pointer, row_octets, target_in}
use Rattle.dnsview_tool.specs.Digits.{hexadecimal, octet_text}
use Rattle.dnsview_tool.specs.Printable.{are_printable}
use Rattle.dnsview_tool.specs.Joined.{joined, line_row, line_rows, lines, PageLine}
use Rattle.dnsview_rows.specs.declared.row.Row.{Row}
use Rattle.dnsview_rows.specs.declared.row.RowKind.{RowKind}
use Rattle.dnsview_rows.specs.declared.row.RowField.{RowField}
use Rattle.dnsview_tool.specs.declared.html.TheConstants.{HEAD, LEGEND, STYLE}
use Rattle.dnsview_rows.specs.declared.row.RowKind.TheVariants as kinds
use Rattle.dnsview_rows.specs.declared.row.RowField.TheVariants as fields

-- an octet of a text, where `<`, `>` and `&` are escaped
abbrev pub escaped_octet : ℕ → List ℕ
escaped_octet octet = if octet == 60 then codes "&lt;" else (if octet == 62 then codes "&gt;" else (if octet == 38 then codes "&amp;" else octet ∷ []))

-- a text with its markup characters escaped
abbrev pub escaped : List ℕ → List ℕ
escaped text = flat_map escaped_octet text

-- As much of a text as takes at most `room` octets with its markup characters escaped and three octets after it. An escape is never cut.
abbrev pub front_within : ℕ → List ℕ → List ℕ
front_within room [] = []
front_within room (octet ∷ text) = if nat_lt room (length (escaped_octet octet) + 3) then [] else octet ∷ front_within (room - length (escaped_octet octet)) text

-- what stands for the end of a text that is cut off
abbrev pub ellipsis_text : Bool → List ℕ
ellipsis_text cut = if cut then codes "..." else []

-- a text in at most `limit` octets, with its markup characters escaped
abbrev pub escaped_within : ℕ → List ℕ → List ℕ
escaped_within limit text = escaped (front_within limit text) ++ ellipsis_text (nat_lt (length (front_within limit text)) (length text))

-- all before the grid, with some words as the title and the first line
abbrev pub top_text : List ℕ → List ℕ
top_text words = HEAD.now ++ escaped words ++ STYLE.now ++ escaped words ++ LEGEND.now

-- how many rows are pointers
abbrev pub pointer_count : List Row → ℕ
pointer_count rows = count_by (λ row. is_pointer row.kind) rows

-- the start of the grid; the class `few` draws all arrows
abbrev pub opening_text : List Row → List ℕ
opening_text rows = if nat_lt (pointer_count rows) 20 then codes "<main class=few>\n<div class=grid>" else codes "<main>\n<div class=grid>"

-- the letter for a field's colour in the page's style sheet
abbrev pub field_letter : RowField → List ℕ
field_letter fields.Id = codes "h"
field_letter fields.Flags = codes "h"
field_letter (fields.Count _) = codes "h"
field_letter (fields.Label _) = codes "n"
field_letter (fields.Root _ _) = codes "n"
field_letter (fields.Pointer _ _) = codes "p"
field_letter fields.Type = codes "k"
field_letter fields.Class = codes "k"
field_letter fields.Ttl = codes "k"
field_letter fields.RdLength = codes "k"
field_letter fields.PayloadSize = codes "o"
field_letter fields.ExtendedRcode = codes "o"
field_letter fields.Version = codes "o"
field_letter fields.OptFlags = codes "o"
field_letter fields.OptionCode = codes "o"
field_letter (fields.OptionLength _) = codes "o"
field_letter (fields.OptionData _) = codes "o"
field_letter _ = codes "d"

-- the letter for the colour of a row
abbrev pub letter_of : RowKind → List ℕ
letter_of (kinds.Field field) = field_letter field
letter_of _ = codes "f"

-- the `id` of a row's cells: the letter for its colour, and its offset in hexadecimal
abbrev pub cell_id : Row → List ℕ
cell_id row = letter_of row.kind ++ hexadecimal row.start

-- the `id` of a row in the list: its offset
abbrev pub row_id : Row → List ℕ
row_id row = decimal row.start

-- the attribute of a pointer: its offset, and the offset where it leads
abbrev pub arrow_text : ℕ → ℕ → List ℕ
arrow_text from target = codes " style=--p:" ++ decimal from ++ codes "," ++ decimal target

-- the attribute of a row that begins with a pointer; nothing for other rows
abbrev pub mark_text : List ℕ → Row → List ℕ
mark_text message row = if is_pointer row.kind then arrow_text row.start (target_in (take 2 (row_octets message row))) else []

-- what begins at an offset before its octet: a part of the grid, whose octets are 256; else a line with the offset, whose octets are sixteen; else nothing
abbrev pub line_start : ℕ → List ℕ
line_start offset =
    if offset % 256 == 0 then codes "\n<p><s>" ++ decimal offset ++ codes "</s>"
    else if offset % 16 == 0 then codes "\n<s>" ++ decimal offset ++ codes "</s>"
    else []

-- the other attributes of a link to a row, and the end of its tag
abbrev pub link_text : List ℕ → Row → List ℕ
link_text message row = codes " href=#" ++ row_id row ++ mark_text message row ++ codes ">"

-- what precedes the first octet of a row: the start of the row's link
abbrev pub first_link : List ℕ → Row → List ℕ
first_link message row = line_start row.start ++ codes "<a id=" ++ cell_id row ++ link_text message row

-- the row's link ends, and its next one begins in the part of the grid that begins at an offset
abbrev pub next_link : List ℕ → Row → ℕ → List ℕ
next_link message row offset = codes "</a>" ++ line_start offset ++ codes "<a class=" ++ letter_of row.kind ++ link_text message row

-- what precedes an octet of a row
abbrev pub cell_start : List ℕ → Row → ℕ → List ℕ
cell_start message row offset = if offset == row.start then first_link message row else if offset % 256 == 0 then next_link message row offset else line_start offset

-- what follows an octet of a row, where `next` is the offset after it: a bar if the row ends there and its line, as one row, doesn't; else a space
abbrev pub cell_end : Row → Row → ℕ → List ℕ
cell_end line row next = if next == row.end && nat_lt next line.end then codes "|" else codes " "

-- the cell of an octet of a row, given with its offset, and what precedes it; `line` is the row's line as one row
abbrev pub cell_text : List ℕ → Row → Row → ℕ × ℕ → List ℕ
cell_text message line row (offset, octet) = cell_start message line offset ++ octet_text octet ++ cell_end line row (offset + 1)

-- the cells of the octets of a row on a line
abbrev pub octet_cells : List ℕ → Row → Row → List ℕ → List ℕ
octet_cells message line row octets = flat_map (cell_text message line row) (enumerate_from row.start octets)

-- the cells of a row on a line
abbrev pub row_cells : List ℕ → Row → Row → List ℕ
row_cells message line row = octet_cells message line row (row_octets message row)

-- the cells of the rows of a line, in links to it; nothing if it has no octets
abbrev pub line_cells : List ℕ → PageLine → List ℕ
line_cells message line = if length (row_octets message (line_row line)) == 0 then [] else flat_map (row_cells message (line_row line)) (line_rows line) ++ codes "</a>"

-- octets in digits
abbrev pub digits : List ℕ → List ℕ
digits octets = flat_map octet_text octets

-- a row of the list without octets: its words
abbrev pub heading_row_text : Row → List ℕ → List ℕ
heading_row_text row words = (if is_item row.kind then codes "<b>" else codes "<b class=f>") ++ escaped words ++ codes "</b>"

-- the attribute of a row of the list, which draws the same arrow as its cells: none on a brief page
abbrev pub row_mark_text : Bool → List ℕ → Row → List ℕ
row_mark_text brief message row = if brief then [] else mark_text message row

-- the start of a row's link to its cells, with its own `id`
abbrev pub field_link_text : Bool → List ℕ → Row → List ℕ
field_link_text brief message row = codes "<a id=" ++ row_id row ++ codes " href=#" ++ cell_id row ++ row_mark_text brief message row ++ codes ">"

-- whether the words for a row are cut off if they are long: after the header section on a brief page
abbrev pub limits_words : Bool → Row → Bool
limits_words brief row = brief && nat_le header_size row.start

-- how many octets the words for some octets may take: 27, and nine for each octet, but at least 60
abbrev pub words_limit : List ℕ → ℕ
words_limit octets = max 60 (9 * length octets + 27)

-- the words for a row of the list
abbrev pub words_text : Bool → List ℕ → Row → List ℕ → List ℕ
words_text brief message row words = if limits_words brief row then escaped_within (words_limit (row_octets message row)) words else escaped words

-- any other row of the list: the link, with its octets and words
abbrev pub field_row_text : Bool → List ℕ → Row → List ℕ → List ℕ
field_row_text brief message row words = field_link_text brief message row ++ digits (row_octets message row) ++ codes "\t" ++ words_text brief message row words ++ codes "</a>"

-- what precedes a row of the list: the start of a part, if a multiple of 64 is past the row's start and up to its end; else nothing
abbrev pub part_start : Row → List ℕ
part_start row = if row.start / 64 == row.end / 64 then [] else codes "\n<p>"

-- a row with some words
abbrev pub row_text : Bool → List ℕ → Row → List ℕ → List ℕ
row_text brief message row words = if length (row_octets message row) == 0 then heading_row_text row words else field_row_text brief message row words

-- a row of the list, with some words in printable ASCII, and what precedes it
abbrev pub IsListRow : Bool → List ℕ → Row → List ℕ → Type 0
IsListRow brief message row text = (words : List ℕ) × (are_printable words ≡ true) × (text ≡ part_start row ++ row_text brief message row words)

-- a line of the list, as one row
abbrev pub IsListLine : Bool → List ℕ → PageLine → List ℕ → Type 0
IsListLine brief message line text = IsListRow brief message (line_row line) text

-- the text of a page, which may be brief: a title of some words in printable ASCII, the grid with the cells of all lines, and the list of the lines, each as one row
pub record IsPageOf (brief : Bool) (message : List ℕ) (rows : List Row) (text : List ℕ) : Type 0 where
  pub title : List ℕ
  pub printable : are_printable title ≡ true
  pub list : List (List ℕ)
  pub are_rows : AllZip (IsListRow brief message) (joined brief rows) list
  pub is : text ≡ top_text title ++ opening_text rows ++ flat_map (line_cells message) (lines brief rows) ++ codes "\n</div>\n<div class=list>\n<p>" ++ concat
      list ++ codes "\n</div>\n</main>\n</body>\n</html>\n"

-- The octets of a page that isn't brief, at most: forty for each octet of the message, but 65,536 for a small one, as the style alone takes some.
abbrev pub page_limit : List ℕ → ℕ
page_limit message = max 65536 (40 * length message)

-- The page of a message: the full one if it is within the limit, else the brief one.
pub data IsPage (message : List ℕ) (rows : List Row) (text : List ℕ) : Type 0 where
  full : IsPageOf false message rows text → length text ≤ page_limit message → IsPage message rows text
  brief : (other : List ℕ) → IsPageOf false message rows other → page_limit message < length other → IsPageOf true message rows text → IsPage message rows text
