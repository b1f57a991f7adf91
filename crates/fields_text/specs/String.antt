-- Character strings and tags. RFC 1035 section 5.1; tags: RFC 8659 section 4.1.
use Rattle.std.specs.Prelude.{ℕ, ◌==◌, ◌||◌, ◌&&◌, not, length, Bool, if◌then◌else◌, List, [], ◌∷◌, ◌++◌}
use Rattle.std.specs.Char.{is_ascii_alphanumeric}
use Rattle.std.specs.Int.{is_in_range}
use Rattle.std.specs.List.{flat_map, list_all}
pub use Rattle.dns_print.specs.Digits.{decimal_text}

-- the ASCII codes of a quote and of a backslash
abbrev pub quote : ℕ
quote = 0x22

abbrev pub backslash : ℕ
backslash = 0x5c

-- an octet of a quoted string: graphic ASCII characters and spaces as they are, but a quote or a backslash after a backslash; other octets by three digits
abbrev pub string_octet : ℕ → List ℕ
string_octet o =
    if (o == quote) || (o == backslash) then backslash ∷ o ∷ []
    else if is_in_range 0x20 0x7e o then o ∷ []
    else decimal_text o

abbrev pub quoted : List ℕ → List ℕ
quoted octets = quote ∷ flat_map string_octet octets ++ quote ∷ []

-- a tag: one letter or digit at least, and nothing else
abbrev pub is_tag : List ℕ → Bool
is_tag octets = not (length octets == 0) && list_all is_ascii_alphanumeric octets
