-- Words that represent character strings. RFC 1035 section 5.1.
use Rattle.std.specs.Prelude.{◌≡◌, ℕ, ◌+◌, ◌-◌, ◌*◌, ◌==◌, ◌&&◌, nat_le, Bool, length, slice_index, slice_range, if◌then◌else◌, List, [], ◌∷◌, Option, Some, None}
use Rattle.std.specs.Char.{is_ascii_digit}
use Rattle.fields_text.specs.String.{quote, backslash}

-- the octet of three decimal digits, and the text after them
abbrev pub decimal_at : ℕ → List ℕ → Option (ℕ × List ℕ)
decimal_at first (second ∷ third ∷ after) =
    let value = (first - 48) * 100 + (second - 48) * 10 + (third - 48) in
    if is_ascii_digit second && is_ascii_digit third && nat_le value 255 then Some (value, after) else None
decimal_at first _ = None

-- the octet after a backslash, itself unless it is the first of three digits
abbrev pub escaped_at : List ℕ → Option (ℕ × List ℕ)
escaped_at [] = None
escaped_at (first ∷ after) = if is_ascii_digit first then decimal_at first after else Some (first, after)

-- the octet that the start of a text represents, and the text after it: an octet stands for itself, but for a quote and a backslash
abbrev pub octet_at : List ℕ → Option (ℕ × List ℕ)
octet_at [] = None
octet_at (first ∷ after) =
    if first == quote then None
    else if first == backslash then escaped_at after
    else Some (first, after)

-- a text represents octets, one by one
pub data SpellsOctets : List ℕ → List ℕ → Type 0 where
  none : SpellsOctets [] []
  more : {text after octets : List ℕ} {octet : ℕ} → octet_at text ≡ Some (octet, after) → SpellsOctets after octets → SpellsOctets text (octet ∷ octets)

-- whether a word begins and ends with a quote
abbrev pub is_quoted : List ℕ → Bool
is_quoted word = nat_le 2 (length word) && (slice_index word 0 == quote) && (slice_index word (length word - 1) == quote)

-- the text between the quotes of a word, or the word if it has none
abbrev pub unquoted : List ℕ → List ℕ
unquoted word = if is_quoted word then slice_range word 1 (length word - 1) else word

-- a word represents octets, in quotes or without
abbrev pub SpellsString : List ℕ → List ℕ → Type 0
SpellsString word octets = SpellsOctets (unquoted word) octets
