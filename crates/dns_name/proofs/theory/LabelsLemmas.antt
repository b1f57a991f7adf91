-- The number and size of a name's labels.
use Rattle.std.proofs.Common.{◌≡◌, ℕ, ◌+◌, ◌≤◌, List, [], ◌∷◌, length, length-append, arith, refl}
use Rattle.dns_name.specs.Names.{Labels, name_size, max_size, uncompressed, with_root, NameAt}
use Rattle.dns_name.specs.Unique.{NameOfSize, NameOfSizeAndCount, encoded_short}
use Rattle.dns_name.specs.ParsedName.{labels}
use Rattle.dns_name.specs.declared.parsed_name.ParsedName.{ParsedName}

-- The labels of a parsed name are the name that is encoded where it begins.
pub labels_encoded : (name : ParsedName) → NameAt name.octets.now name.pos (labels name)
labels_encoded name = name.name_at.0.1

-- A name with its size and number of labels is encoded there.
pub name_encoded : (b : List ℕ) (p size count : ℕ) (name : NameOfSizeAndCount b p size count) → NameAt b p name.0.0
name_encoded b p size count name = name.0.1

-- The size without the number of labels.
pub name_of_size : (b : List ℕ) (p size count : ℕ) → NameOfSizeAndCount b p size count → NameOfSize b p size
name_of_size b p size count name = (name.0, name.1)

-- A name has at most as many labels as its size, as each takes at least one octet.
pub few_labels : (name : Labels) → length name ≤ name_size name
few_labels [] = omega arith
few_labels (label ∷ name) = omega (arith, few_labels name)

-- An encoded name has a size of at most 254, and at most as many labels.
pub short_and_few : (b : List ℕ) (p size count : ℕ) → NameOfSizeAndCount b p size count → (size ≤ max_size) × (count ≤ size)
short_and_few b p size count name = (omega (arith, name.1, encoded_short name.0.1), omega (arith, name.1, name.2, few_labels name.0.0))

-- Only the root has size 0.
pub empty_name : (name : Labels) → name_size name ≡ 0 → name ≡ []
empty_name [] h = refl
empty_name (label ∷ name) h = absurd (omega arith)

-- The uncompressed octets are one more than the size, for the root's zero octet.
pub length-uncompressed : (name : Labels) → length (uncompressed name) ≡ name_size name + 1
length-uncompressed [] = refl
length-uncompressed (label ∷ name) = omega (arith, length-append label (uncompressed name), length-uncompressed name)

-- The root label is one more label.
pub length-with_root : (name : Labels) → length (with_root name) ≡ length name + 1
length-with_root name = length-append name ([] ∷ [])

-- The root label takes one octet.
pub name_size-with_root : (name : Labels) → name_size (with_root name) ≡ name_size name + 1
name_size-with_root [] = refl
name_size-with_root (label ∷ name) = omega (arith, name_size-with_root name)
