-- Names in zone files. RFC 1035 section 5.1.
use Rattle.std.specs.Prelude.{ℕ, ◌==◌, ◌||◌, Bool, if◌then◌else◌, List, [], ◌∷◌, ◌++◌, codes}
use Rattle.std.specs.List.{flat_map}
use Rattle.dns_name.specs.Names.{Labels, with_root}
use Rattle.dns_name.specs.NameTexts.{backslash, is_graphic, is_special}
use Rattle.fields_text.specs.String.{decimal_text}

-- A character that means something in a zone file: a quotation mark, a dollar sign, a parenthesis, a semicolon, an at sign, a dot or a backslash.
abbrev pub means_something : ℕ → Bool
means_something c = ((c == 0x22) || (c == 0x24) || (c == 0x28) || (c == 0x29) || (c == 0x3b) || (c == 0x40)) || is_special c

-- How an octet of a label is printed.
abbrev pub zone_octet_text : ℕ → List ℕ
zone_octet_text o = if means_something o then backslash ∷ o ∷ [] else if is_graphic o then o ∷ [] else decimal_text o

-- How a label is printed.
abbrev pub zone_label_text : List ℕ → List ℕ
zone_label_text label = flat_map zone_octet_text label

-- A label with the dot after it; the root label has none.
abbrev pub dotted_label : List ℕ → List ℕ
dotted_label [] = []
dotted_label (o ∷ os) = zone_label_text (o ∷ os) ++ codes "."

-- How a name is printed: each label with the dot after it; the root is a single dot.
abbrev pub zone_name_text : Labels → List ℕ
zone_name_text [] = codes "."
zone_name_text (label ∷ name) = flat_map dotted_label (with_root (label ∷ name))
