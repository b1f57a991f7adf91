-- What `print_text` prints for rows. The words for their meanings are left open, but they are printable ASCII.
use Rattle.std.specs.Prelude.{◌≡◌, true, ℕ, ◌-◌, ◌*◌, ◌≤◌, List, [], ◌∷◌, ◌++◌, length, replicate, All, MatchBool, codes, decimal}
use Rattle.std.specs.List.{flat_map}
use Rattle.dnsview_rows.specs.Rows.{is_item, row_octets}
use Rattle.dnsview_tool.specs.Digits.{octet_text}
use Rattle.dnsview_tool.specs.Printable.{are_printable}
use Rattle.dnsview_rows.specs.declared.row.Row.{Row}

-- the octets on a line, at most
abbrev pub line_octets : ℕ
line_octets = 8

-- the columns of words on a line, at most
abbrev pub columns : ℕ
columns = 46

-- n spaces
abbrev pub spaces : ℕ → List ℕ
spaces n = replicate n 32

-- an offset, right-aligned in six columns
abbrev pub offset_text : ℕ → List ℕ
offset_text offset = spaces (6 - length (decimal offset)) ++ decimal offset

-- octets in digits, each after a space
abbrev pub digits_text : List ℕ → List ℕ
digits_text octets = flat_map (λ octet. 32 ∷ octet_text octet) octets

-- the spaces in place of the octets that a line with `count` octets lacks: three for each
abbrev pub blank_octets : ℕ → List ℕ
blank_octets count = spaces (3 * (line_octets - count))

-- some octets of a row, and the words after them
pub record Line : Type 0 where
  pub octets : List ℕ
  pub words : List ℕ

-- a line has at most eight octets, and at most 46 columns of words, in printable ASCII
pub record IsShort (line : Line) : Type 0 where
  pub octets : length line.octets ≤ line_octets
  pub words : length line.words ≤ columns
  pub printable : are_printable line.words ≡ true

-- words after `count` octets, always from the same column; nothing if there are none
abbrev pub words_text : ℕ → List ℕ → List ℕ
words_text count [] = []
words_text count words = blank_octets count ++ codes "  " ++ words

-- the text of a line: its octets and its words
abbrev pub line_text : Line → List ℕ
line_text line = digits_text line.octets ++ words_text (length line.octets) line.words ++ 10 ∷ []

-- the text of consecutive octets from an offset: lines that have these octets in order, the first after the offset, each other after seven spaces
pub record IsLines (offset : ℕ) (octets text : List ℕ) : Type 0 where
  pub first : Line
  pub others : List Line
  pub whole : flat_map (λ line. line.octets) (first ∷ others) ≡ octets
  pub short : All IsShort (first ∷ others)
  pub is : text ≡ offset_text offset ++ codes " " ++ line_text first ++ flat_map (λ line. spaces 7 ++ line_text line) others

-- some words in printable ASCII, and a line feed
abbrev pub IsWords : List ℕ → Type 0
IsWords text = (words : List ℕ) × (are_printable words ≡ true) × (text ≡ words ++ 10 ∷ [])

-- the text of a row: words alone where an item begins, else its octets from its offset on
abbrev pub IsRowText : List ℕ → Row → List ℕ → Type 0
IsRowText message row text = MatchBool (is_item row.kind) (IsWords text) (IsLines row.start (row_octets message row) text)
