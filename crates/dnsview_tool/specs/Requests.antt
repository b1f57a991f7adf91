-- What the arguments of `dnsview` ask for.
use Rattle.std.specs.Prelude.{ℕ, ◌+◌, ◌==◌, ◌&&◌, ◌||◌, not, nat_lt, Bool, if◌then◌else◌, Option, Some, None, is_some, List, length, find, position, drop, slice_index, bytes_eq, codes, string_bytes}
use Rattle.std.specs.List.{list_any}
use Rattle.std.specs.declared.string.String.{String}
use Rattle.std.specs.declared.alloc.Global.{Global}
use Rattle.dnsview_tool.specs.declared.request.Form.{Form}
use Rattle.dnsview_tool.specs.declared.request.Form.TheVariants.{Text, Page, Lines, Json, Dig}
use Rattle.dnsview_tool.specs.declared.request.Request.{Request}
use Rattle.dnsview_tool.specs.declared.request.Request.TheVariants as requests

abbrev pub is_help : List ℕ → Bool
is_help word = bytes_eq word (codes "--help") || bytes_eq word (codes "-h")

abbrev pub is_version : List ℕ → Bool
is_version word = bytes_eq word (codes "--version")

abbrev pub is_html : List ℕ → Bool
is_html word = bytes_eq word (codes "--html")

abbrev pub is_short : List ℕ → Bool
is_short word = bytes_eq word (codes "--short")

abbrev pub is_json : List ℕ → Bool
is_json word = bytes_eq word (codes "--json")

abbrev pub is_dig : List ℕ → Bool
is_dig word = bytes_eq word (codes "--dig")

-- a form of the whole message without markup
abbrev pub is_full : List ℕ → Bool
is_full word = is_json word || is_dig word

-- a form without markup
abbrev pub is_plain : List ℕ → Bool
is_plain word = is_short word || is_full word

-- a word that begins with `-` (45) and isn't `-` alone
abbrev pub is_option : List ℕ → Bool
is_option word = nat_lt 1 (length word) && (slice_index word 0 == 45)

-- any other word names a file; `-` is standard input
abbrev pub is_file : List ℕ → Bool
is_file word = not (is_option word)

-- an option that the program doesn't know
abbrev pub is_unknown : List ℕ → Bool
is_unknown word = is_option word && not (is_help word) && not (is_version word) && not (is_html word) && not (is_plain word)

-- the arguments
abbrev pub Words : Type 0
Words = List (String Global)

-- whether some argument is of a kind
abbrev pub has : (List ℕ → Bool) → Words → Bool
has kind words = list_any (λ word. kind (string_bytes word)) words

-- the first option that the program doesn't know
abbrev pub unknown_option : Words → Option (String Global)
unknown_option words = find (λ word. is_unknown (string_bytes word)) words

-- the first file, and the second
abbrev pub first_file : Words → Option (String Global)
first_file words = find (λ word. is_file (string_bytes word)) words

abbrev pub file_index : Words → Option ℕ
file_index words = position (λ word. is_file (string_bytes word)) words

abbrev pub file_after : Words → Option ℕ → Option (String Global)
file_after words None = None
file_after words (Some index) = first_file (drop (index + 1) words)

abbrev pub second_file : Words → Option (String Global)
second_file words = file_after words (file_index words)

-- the first `--short`, `--json` or `--dig`, the first of the last two, and the first `--dig`
abbrev pub plain_option : Words → Option (String Global)
plain_option words = find (λ word. is_plain (string_bytes word)) words

abbrev pub full_option : Words → Option (String Global)
full_option words = find (λ word. is_full (string_bytes word)) words

abbrev pub dig_option : Words → Option (String Global)
dig_option words = find (λ word. is_dig (string_bytes word)) words

-- the first option of these that `--html` is beside; else the first `--json` or `--dig` that `--short` is beside, else the first `--dig` that `--json` is beside
abbrev pub contrary_option : Words → Option (String Global)
contrary_option words =
    if has is_html words then plain_option words
    else if has is_short words then full_option words
    else if has is_json words then dig_option words
    else None

-- the argument that is wrong: the first unknown option, else the second file, else one of `--html`, `--short`, `--json` and `--dig` beside another
abbrev pub wrong_word : Words → Option (String Global)
wrong_word words =
    if is_some (unknown_option words) then unknown_option words
    else if is_some (second_file words) then second_file words
    else contrary_option words

-- what is printed of a message
abbrev pub form_of : Words → Form
form_of words =
    if has is_html words then Page
    else if has is_short words then Lines
    else if has is_json words then Json
    else if has is_dig words then Dig
    else Text

-- What the arguments ask for: help if one of them does, else the version if one does, else a view if none is wrong.
abbrev pub asked : Words → Request
asked words =
    if has is_help words then requests.Help
    else if has is_version words then requests.Version
    else if is_some (wrong_word words) then requests.Wrong
    else requests.View (form_of words)

-- a file, if a view is asked for
abbrev pub of_view : Request → Option (String Global) → Option (String Global)
of_view (requests.View form) file = file
of_view request file = None

-- the file that a view is asked of
abbrev pub file_of : Words → Option (String Global)
file_of words = of_view (asked words) (first_file words)
