-- Numbers and octets in hexadecimal digits.
use Rattle.std.specs.Prelude.{ℕ, ◌/◌, ◌%◌, false, List, [], ◌∷◌}
use Rattle.std.specs.Fmt.{digits, digit_glyph}

-- a number in lower-case hexadecimal digits
abbrev pub hexadecimal : ℕ → List ℕ
hexadecimal n = digits 16 false n

-- an octet in two lower-case hexadecimal digits
abbrev pub octet_text : ℕ → List ℕ
octet_text octet = digit_glyph false (octet / 16) ∷ digit_glyph false (octet % 16) ∷ []
