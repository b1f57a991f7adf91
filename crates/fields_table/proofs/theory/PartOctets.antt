-- The octets of parts without compression, and their number.
use Rattle.std.proofs.Common.{◌≡◌, ◌∙◌, ℕ, ◌+◌, List, [], ◌∷◌, ◌++◌, length, length-append, refl, ap}
use Rattle.dns_name.specs.Names.{uncompressed}
use Rattle.dns_wire.specs.Encoders.{CompressionTable, Plain, encode_name}
use Rattle.dns_wire.specs.Parts.{Part, encode_parts, part_size, parts_size}
use Rattle.dns_wire.specs.Parts.Part.{Octets, CompressibleName, UncompressedName}
use Rattle.fields_table.specs.DataOrders.{octets_of_parts, part_octets}

-- parts that are written without compression
pub plain_octets : (parts : List Part) (m : CompressionTable) (w : ℕ) → (encode_parts Plain parts m w).octets ≡ octets_of_parts parts
unfolding encode_parts encode_name
plain_octets [] m w = refl
plain_octets (Octets octets ∷ parts) m w = ap (λ (xs : List ℕ). octets ++ xs) (plain_octets parts m (w + length octets))
plain_octets (CompressibleName name ∷ parts) m w = ap (λ (xs : List ℕ). uncompressed name ++ xs) (plain_octets parts m (w + length (uncompressed name)))
plain_octets (UncompressedName lowers name ∷ parts) m w = ap (λ (xs : List ℕ). uncompressed name ++ xs) (plain_octets parts m (w + length (uncompressed name)))

-- A part has as many octets as its size.
pub part_length : (part : Part) → length (part_octets part) ≡ part_size part
part_length (Octets octets) = refl
part_length (CompressibleName name) = refl
part_length (UncompressedName lowers name) = refl

-- The octets of parts are as many as the size of the parts.
pub parts_length : (parts : List Part) → length (octets_of_parts parts) ≡ parts_size parts
parts_length [] = refl
parts_length (part ∷ parts) = length-append (part_octets part) (octets_of_parts parts) ∙ (λ i. part_length part i + parts_length parts i)
