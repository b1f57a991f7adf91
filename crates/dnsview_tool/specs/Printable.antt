-- Printable ASCII.
use Rattle.std.specs.Prelude.{ℕ, ◌||◌, ◌==◌, Bool, List}
use Rattle.std.specs.Int.{is_in_range}
use Rattle.std.specs.List.{list_all}

-- a graphic character of ASCII, or a space: 0x20 to 0x7e. RFC 20 section 4.
abbrev pub is_printable : ℕ → Bool
is_printable octet = is_in_range 0x20 0x7e octet

-- words are printable ASCII
abbrev pub are_printable : List ℕ → Bool
are_printable words = list_all is_printable words

-- lines of printable ASCII: each octet is printable or a line feed (10)
abbrev pub are_lines : List ℕ → Bool
are_lines text = list_all (λ octet. is_printable octet || (octet == 10)) text
