-- EUI-48 and EUI-64 addresses (RFC 7043), and 64-bit locators (RFC 6742 section 2.1.2).
use Rattle.std.specs.Prelude.{ℕ, false, List, [], ◌∷◌, ◌++◌, codes}
use Rattle.std.specs.List.{flat_map}
use Rattle.dns_print.specs.Digits.{hex_digits}

-- an octet as two lowercase hexadecimal digits
abbrev pub low_pair : ℕ → List ℕ
low_pair octet = hex_digits false octet

-- a hyphen and an octet
abbrev pub hyphen_pair : ℕ → List ℕ
hyphen_pair octet = codes "-" ++ low_pair octet

-- octets, separated by hyphens
abbrev pub eui_text : List ℕ → List ℕ
eui_text [] = []
eui_text (first ∷ after) = low_pair first ++ flat_map hyphen_pair after
