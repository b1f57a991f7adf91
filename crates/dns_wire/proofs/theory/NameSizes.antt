-- The octets that a written name takes.
use Rattle.std.proofs.Common.{ℕ, ◌+◌, ◌≤◌, List, [], ◌∷◌, length, length-append, arith}
use Rattle.dns_name.specs.Names.{Labels, uncompressed}
use Rattle.dns_wire.specs.Encoders.{CompressionTable, Suffix, Rule, Plain, Static, Tree, Hash, encode_name}
use Rattle.dns_wire.specs.Parts.{Part, Octets, CompressibleName, UncompressedName, encode_part, encode_parts, part_size, parts_size}
use Rattle.dns_wire.specs.TargetLaws.{NamesAreShort}
use Rattle.dns_name.proofs.theory.LabelsLemmas.{length-uncompressed}
use Rattle.dns_wire.proofs.theory.EncodedNames.{CompressesAs, compresses_as}
use Rattle.dns_wire.proofs.theory.EncodedNames.CompressesAs.{at_root, at_entry, at_kept, at_far}

-- A written name takes at most as many octets as it does uncompressed: a pointer takes two, and a length octet and the root's zero octet take as many.
compress_short : {rule : Rule} {m : CompressionTable} {p entry_count : ℕ} {name : Labels} {encoding : List ℕ} {ss : List Suffix}
    → CompressesAs rule m p entry_count name encoding ss → length encoding ≤ length (uncompressed name)
compress_short at_root = omega arith
compress_short (at_entry {first = first} {rest = rest} e) =
    let size = length-uncompressed rest in
    let both = length-append first (uncompressed rest) in
    omega arith
compress_short (at_kept {first = first} {rest = rest} {encoding = encoding} e k s) =
    let written = length-append first encoding in
    let whole = length-append first (uncompressed rest) in
    let less = compress_short s in
    omega arith
compress_short (at_far e k) = omega arith

-- This holds under each rule.
pub names_are_short : NamesAreShort
unfolding encode_name
names_are_short Plain name m w = omega arith
names_are_short Static name m w = compress_short (compresses_as Static m w _ name)
names_are_short Tree name m w = compress_short (compresses_as Tree m w _ name)
names_are_short Hash name m w = compress_short (compresses_as Hash m w _ name)

part_short : (rule : Rule) (part : Part) (m : CompressionTable) (w : ℕ) → length (encode_part rule part m w).octets ≤ part_size part
part_short rule (Octets octets) m w = omega arith
part_short rule (CompressibleName name) m w = names_are_short rule name m w
part_short rule (UncompressedName lowercased name) m w = omega arith

-- Written parts take at most as many octets as they do uncompressed.
pub parts_are_short : (rule : Rule) (parts : List Part) (m : CompressionTable) (w : ℕ) → length (encode_parts rule parts m w).octets ≤ parts_size parts
unfolding encode_parts
parts_are_short rule [] m w = omega arith
parts_are_short rule (part ∷ parts) m w =
    let first = encode_part rule part m w in
    let a = part_short rule part m w in
    let b = parts_are_short rule parts first.table (w + length first.octets) in
    rw length-append (omega (arith, a, b))
