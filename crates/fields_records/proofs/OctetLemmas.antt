-- The octets of fields, and their digits.
use Rattle.std.proofs.Common.{◌≡◌, ◌∙◌, ℕ, ◌+◌, ◌≤◌, ◌<◌, List, [], ◌∷◌, ◌++◌, length, ap, refl, arith, length-append, append-nil, codes}
use Rattle.std.proofs.lemmas.Grind.{flat_map-append}
use Rattle.std.specs.List.{flat_map}
use Rattle.std.specs.Prelude.{decimal}
use Rattle.dns_data.specs.Printing.{hex_octet, opaque_text}
use Rattle.fields_table.specs.FieldParts.{NamedPart, named_parts}
use Rattle.fields_table.specs.Table.{Definition}
use Rattle.dns_wire.specs.Parts.{Part, parts_size}
use Rattle.fields_table.specs.DataOrders.{part_octets}
use Rattle.fields_records.specs.FieldTexts.{fields_octets}
use Rattle.fields_table.proofs.theory.PartOctets.{part_length}

-- the digits of the first of some items, and then those of the others
pub first_digits : {A : Type 0} (octets : A → List ℕ) (items : List A) (item : A) (after : List A) → items ≡ item ∷ after
    → flat_map hex_octet (flat_map octets items) ≡ flat_map hex_octet (octets item) ++ flat_map hex_octet (flat_map octets after)
first_digits octets items item after e =
    ap (λ (l : List _). flat_map hex_octet (flat_map octets l)) e ∙ flat_map-append hex_octet (octets item) (flat_map octets after)

-- fields take no more octets than their parts
pub fields_within : (ds : List Definition) (parts : List Part) → length (fields_octets (named_parts ds parts)) ≤ parts_size parts
fields_within [] parts = omega arith
fields_within (d ∷ ds) [] = omega arith
fields_within (d ∷ ds) (part ∷ parts) =
    let first = part_length part in
    let others = fields_within ds parts in
    let both = length-append (part_octets part) (fields_octets (named_parts ds parts)) in
    omega arith

-- the size of the first field, and then that of the others
pub first_size : (fields : List NamedPart) (field : NamedPart) (after : List NamedPart) → fields ≡ field ∷ after
    → length (fields_octets fields) ≡ length (part_octets field.part) + length (fields_octets after)
first_size fields field after e =
    ap (λ (l : List NamedPart). length (fields_octets l)) e ∙ length-append (part_octets field.part) (fields_octets after)

-- no octets
pub opaque_none : (octets : List ℕ) → length octets ≡ 0 → opaque_text octets ≡ codes "\\# " ++ decimal (length octets)
opaque_none [] e = append-nil _
opaque_none (x ∷ xs) e = absurd (omega arith)

-- some octets
pub opaque_some : (octets : List ℕ) → 0 < length octets → opaque_text octets ≡ codes "\\# " ++ decimal (length octets) ++ (codes " " ++ flat_map hex_octet octets)
opaque_some [] e = absurd (omega arith)
opaque_some (x ∷ xs) e = refl
