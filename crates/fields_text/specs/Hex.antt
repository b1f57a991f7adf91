-- Octets in hexadecimal. RFC 4648 section 8.
use Rattle.std.specs.Prelude.{ℕ, true, List}
use Rattle.std.specs.List.{flat_map}
use Rattle.dns_print.specs.Digits.{hex_digits}

-- an octet as two uppercase hexadecimal digits
abbrev pub hex_pair : ℕ → List ℕ
hex_pair octet = hex_digits true octet

abbrev pub hex_text : List ℕ → List ℕ
hex_text octets = flat_map hex_pair octets
