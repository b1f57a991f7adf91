-- Fields at the start of octets.
use Rattle.std.specs.Prelude.{◌≡◌, ℕ, List, true}
use Rattle.dns_wire.specs.Parts.{Part}
use Rattle.fields_table.specs.EncodedData.{parts_read, is_data_at}
use Rattle.fields_table.specs.Layouts.{layout_of}
use Rattle.fields_table.specs.Table.{kinds_of}

-- the octets begin with the fields of this type
abbrev pub AreThere : ℕ → List ℕ → Type 0
AreThere rtype octets = is_data_at octets (layout_of (kinds_of rtype)) 0 ≡ true

-- their parts
abbrev pub parts_in : ℕ → List ℕ → List Part
parts_in rtype octets = parts_read octets (layout_of (kinds_of rtype)) 0
