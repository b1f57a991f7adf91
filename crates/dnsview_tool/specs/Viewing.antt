-- What `dnsview` does with its arguments and its input.
use Rattle.std.specs.Prelude.{◌≡◌, ℕ, ◌<◌, ◌≤◌, ◌%◌, ◌||◌, ◌⊎◌, ⊤, Bool, true, if◌then◌else◌, nat_lt, List, [], ◌∷◌, ◌++◌, length, All, IsTrue, MatchBool, Option, Some, None, Ok, codes, string_bytes}
use Rattle.std.specs.Char.{is_ascii_hexdigit, is_ascii_whitespace}
use Rattle.std.specs.Io.KnownBytes.{Appends, Keeps}
use Rattle.std.specs.List.{list_all}
use Rattle.hex.specs.Hex.{decode_of}
use Rattle.dns_code.specs.HeaderSection.{header_size}
use Rattle.dns_dig.specs.Messages.{dig_text}
use Rattle.dns_json.specs.Messages.{message_json_text, octets_json_text}
use Rattle.dns_lines.specs.Digits.{unspaced}
use Rattle.dns_lines.specs.ZoneLines.{zone_lines}
use Rattle.fields_text.specs.String.{quoted}
use Rattle.dnsview_rows.specs.Shown.{short_header, ShowsMessage}
use Rattle.dnsview_rows.specs.Tiles.{Tiles}
use Rattle.dnsview_rows.specs.declared.row.Row.{Row}
use Rattle.dnsview_tool.specs.Pages.{IsPage}
use Rattle.dnsview_tool.specs.Printable.{are_lines}
use Rattle.dnsview_tool.specs.Printed.{Prints, PrintsEach}
use Rattle.dnsview_tool.specs.Texts.{IsRowText}
use Rattle.dnsview_tool.specs.Requests.{asked, wrong_word, Words}
use Rattle.dnsview_tool.specs.declared.program.TheConstants.{USAGE, HELP, VERSION}
use Rattle.dnsview_tool.specs.declared.request.Form.{Form}
use Rattle.dnsview_tool.specs.declared.request.Form.TheVariants.{Text, Page, Lines, Json, Dig}
use Rattle.dnsview_tool.specs.declared.request.Request.{Request}
use Rattle.dnsview_tool.specs.declared.request.Request.TheVariants.{Help, Version, View, Wrong}
use Rattle.std.specs.declared.string.String.{String}
use Rattle.std.specs.declared.alloc.Global.{Global}

-- whether an input is hexadecimal digits and ASCII white space alone
abbrev pub is_digits : List ℕ → Bool
is_digits input = list_all (λ c. is_ascii_hexdigit c || is_ascii_whitespace c) input

-- The message of an input: the octets that its digits encode if it is hexadecimal digits and white space alone, else its own octets.
abbrev pub Gives : List ℕ → List ℕ → Type 0
Gives input octets = MatchBool (is_digits input) (decode_of (unspaced input) ≡ Ok octets) (octets ≡ input)

-- an input is hexadecimal digits and white space alone, and the number of digits is odd
abbrev pub IsOdd : List ℕ → Type 0
IsOdd input = (is_digits input ≡ true) × (length (unspaced input) % 2 ≡ 1)

-- The rows of octets, which cover each octet once: those of a message if the octets include a header section, else one.
pub record AreRowsOf (octets : List ℕ) (rows : List Row) : Type 0 where
  pub tiles : Tiles rows 0 (length octets)
  pub short : length octets < header_size → rows ≡ short_header (length octets) ∷ []
  pub shows : header_size ≤ length octets → ShowsMessage octets rows

-- the line for octets that are fewer than a header section
abbrev pub short_line : List ℕ
short_line = codes ";; the message has fewer than 12 octets\n"

-- the lines of a message's records; if the octets are fewer than a header section, a line that says so
abbrev pub lines_text : List ℕ → List ℕ
lines_text octets = if nat_lt (length octets) header_size then short_line else zone_lines octets

-- a message as `dig` prints it; if the octets are fewer than a header section, a line that says so
abbrev pub dig_lines : List ℕ → List ℕ
dig_lines octets = if nat_lt (length octets) header_size then short_line else dig_text octets

-- a message as a JSON object; octets that are fewer than a header section as an object with these octets
abbrev pub json_object : List ℕ → List ℕ
json_object octets = if nat_lt (length octets) header_size then octets_json_text octets else message_json_text octets

-- the object and a line feed
abbrev pub json_line : List ℕ → List ℕ
json_line octets = json_object octets ++ codes "\n"

-- a message is printed: all of its rows and in order, as text or a page; the lines of its records; as JSON; or as `dig` does
abbrev pub PrintsForm : Form → List ℕ → Option (List ℕ) → Option (List ℕ) → Type 0
PrintsForm Text octets old new = (rows : List Row) × AreRowsOf octets rows × PrintsEach (IsRowText octets) rows old new
PrintsForm Page octets old new = (rows : List Row) × AreRowsOf octets rows × Prints (IsPage octets rows) old new
PrintsForm Lines octets old new = Appends old new (lines_text octets)
PrintsForm Json octets old new = Appends old new (json_line octets)
PrintsForm Dig octets old new = Appends old new (dig_lines octets)

-- What is printed for an input to standard output and to standard error, and the exit status: its message, or else that the number of digits is odd, or that there is no octet.
pub data IsPrinted (form : Form) (input : List ℕ) (old new errors_old errors_new : Option (List ℕ)) : ℕ → Type 0 where
  shown : (octets : List ℕ) → Gives input octets → 0 < length octets → PrintsForm form octets old new → Keeps errors_old errors_new → IsPrinted form input old new errors_old errors_new 0
  bad_hex : IsOdd input → Keeps old new → Appends errors_old errors_new (codes "dnsview: the number of hexadecimal digits is odd\n") → IsPrinted form input old new errors_old errors_new 1
  empty : Gives input [] → Keeps old new → Appends errors_old errors_new (codes "dnsview: the input is empty\n") → IsPrinted form input old new errors_old errors_new 4

-- a line that names an argument, in printable ASCII
abbrev pub named_text : Option (String Global) → List ℕ
named_text None = []
named_text (Some word) = codes "dnsview: unexpected argument " ++ quoted (string_bytes word) ++ codes "\n"

-- the fixed texts that are printed are lines of printable ASCII
abbrev pub TextsArePrintable : Type 0
TextsArePrintable = IsTrue (are_lines HELP.now) × IsTrue (are_lines VERSION.now) × IsTrue (are_lines USAGE.now)

-- so is the line that names an argument of any octets
abbrev pub ArgumentsArePrintable : Type 0
ArgumentsArePrintable = (word : String Global) → All (λ octet. octet < 256) (string_bytes word) → IsTrue (are_lines (named_text (Some word)))

-- a line that names the wrong argument, and the usage
abbrev pub wrong_text : Words → List ℕ
wrong_text words = named_text (wrong_word words) ++ USAGE.now

-- What is printed to standard output and to standard error, and the exit status: what the arguments ask for, or else which of them is wrong.
pub data IsViewed (words : Words) (input : List ℕ) (old new errors_old errors_new : Option (List ℕ)) : ℕ → Type 0 where
  help : asked words ≡ Help → Appends old new HELP.now → Keeps errors_old errors_new → IsViewed words input old new errors_old errors_new 0
  version : asked words ≡ Version → Appends old new VERSION.now → Keeps errors_old errors_new → IsViewed words input old new errors_old errors_new 0
  wrong : asked words ≡ Wrong → Keeps old new → Appends errors_old errors_new (wrong_text words) → IsViewed words input old new errors_old errors_new 2
  view : (form : Form) (status : ℕ) → asked words ≡ View form → IsPrinted form input old new errors_old errors_new status → IsViewed words input old new errors_old errors_new status

-- the exit statuses of what is asked for, if nothing fails
abbrev pub CanEnd : Request → ℕ → Type 0
CanEnd (View form) status = (status ≤ 1) ⊎ (status ≡ 4)
CanEnd Wrong status = status ≡ 2
CanEnd request status = status ≡ 0

-- an input has what is asked for: a message of some octets if a view is
abbrev pub HasAsked : Request → List ℕ → Type 0
HasAsked (View form) input = (octets : List ℕ) × Gives input octets × (0 < length octets)
HasAsked Wrong input = ⊥
HasAsked request input = ⊤

-- What the exit status says of the arguments and the input. It is 0 only if the input has what the arguments ask for, 1 only if a view is asked of an odd number of digits,
-- 2 only if an argument is wrong, and 4 only if a view is asked of no octets.
pub record Reports (words : Words) (input : List ℕ) (status : ℕ) : Type 0 where
  pub shown : status ≡ 0 → HasAsked (asked words) input
  pub bad_hex : status ≡ 1 → (form : Form) × (asked words ≡ View form) × IsOdd input
  pub wrong : status ≡ 2 → asked words ≡ Wrong
  pub empty : status ≡ 4 → (form : Form) × (asked words ≡ View form) × Gives input []
