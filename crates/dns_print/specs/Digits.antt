-- Octets in digits. RFC 1035 section 5.1, RFC 4648 section 8.
use Rattle.std.specs.Prelude.{ℕ, ◌+◌, ◌/◌, ◌%◌, Bool, List, [], ◌∷◌}
use Rattle.std.specs.Fmt.{digit_glyph}

-- an octet as a backslash and three decimal digits
abbrev pub decimal_text : ℕ → List ℕ
decimal_text octet = 0x5c ∷ (0x30 + octet / 100) ∷ (0x30 + octet / 10 % 10) ∷ (0x30 + octet % 10) ∷ []

-- an octet as two hexadecimal digits, in uppercase or lowercase
abbrev pub hex_digits : Bool → ℕ → List ℕ
hex_digits upper octet = digit_glyph upper (octet / 16) ∷ digit_glyph upper (octet % 16) ∷ []
