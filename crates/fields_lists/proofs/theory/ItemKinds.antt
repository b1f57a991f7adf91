-- The first parameter, prefix and string of octets, and groups.
use Rattle.std.proofs.Common.{◌≡◌, min, ◌∙◌, ℕ, ◌+◌, ◌-◌, ◌*◌, ◌%◌, ◌<◌, ◌≤◌, true, false, List, [], ◌∷◌, length, get_or, take, drop, length-drop, Some, None, refl, sym, ap, arith}
use Rattle.std.specs.Prelude.{nat_le}
use Rattle.std.proofs.lemmas.Bool.{le-leb, lt-leb, leb-true, leb-false}
use Rattle.std.proofs.lemmas.List.{take_min, take_rest, drop_min}
use Rattle.fields_lists.specs.Groups.{group_at, groups}
use Rattle.fields_lists.specs.PrefixItems.{PrefixItem, prefix_at, prefixes_of}
use Rattle.fields_lists.specs.Strings.{string_at, strings_of}
use Rattle.fields_lists.proofs.theory.ItemLemmas.{IsShrinking, items_of_first, items_of_none}
use Rattle.fields_lists.proofs.theory.Shrinking.{prefix_shrinks, same_after, string_shrinks}

-- Groups.

-- Octets that are long enough begin with a group.
pub group_first : (size : ℕ) (octets : List ℕ) → size ≤ length octets → group_at size octets ≡ Some (take size octets, drop size octets)
group_first size octets h = rw (le-leb size (length octets) h) refl

group_none : (size : ℕ) (octets : List ℕ) → length octets < size → group_at size octets ≡ None
group_none size octets h = rw (lt-leb size (length octets) h) refl

-- A group takes octets.
pub group_shrinks : (size : ℕ) → 0 < size → IsShrinking (group_at size)
group_shrinks size positive octets after item e =
    elim (nat_le size (length octets)) as (λ b. nat_le size (length octets) ≡ b → length after < length octets) [
      | true ↦ λ t.
          let enough = leb-true size (length octets) t in
          let is : drop size octets ≡ after = same_after (take size octets, drop size octets) (item, after) (group_at size octets) (group_first size octets enough) e in
          omega (arith, ap length is, length-drop size octets)
      | false ↦ λ t. let few = leb-false size (length octets) t in let none = group_none size octets few in absurd (cc)
    ] refl

-- octets that have a group: it is the first, and then come the groups of the octets after it
pub groups_first : (size : ℕ) (octets group after : List ℕ) → 0 < size → (group ≡ take size octets) × (after ≡ drop size octets) × (length after + size ≡ length octets)
    → groups size octets ≡ group ∷ groups size after
groups_first size octets group after positive h =
    let some : size ≤ length octets = omega (arith, h.2) in
    items_of_first (group_at size) (group_shrinks size positive) octets (drop size octets) (take size octets) (group_first size octets some)
    ∙ ap (λ (g : List ℕ). g ∷ groups size (drop size octets)) (sym h.0)
    ∙ ap (λ (rest : List ℕ). group ∷ groups size rest) (sym h.1)

-- fewer octets than a group have none
pub groups_none : (size : ℕ) (octets : List ℕ) → length octets < size → groups size octets ≡ []
groups_none size octets h = items_of_none (group_at size) octets (group_none size octets h)

-- The first `size` octets after the first k, and the octets after them, as a program cuts them at their end.
pub record Cut (k : ℕ) (octets : List ℕ) (size : ℕ) (value left : List ℕ) : Type 0 where
  pub value_is : value ≡ take size (drop k octets)
  pub left_is : left ≡ drop size (drop k octets)

-- what a program cuts at the smaller of a size and the number of octets left
pub cut_at : (k : ℕ) (octets : List ℕ) (size n : ℕ) (value left : List ℕ) → let rest = take (length octets - k) (drop k octets) in
    n ≡ min size (length rest) → value ≡ take n rest → left ≡ drop n rest → Cut k octets size value left
cut_at k octets size n value left e front back =
    let rest : List ℕ = take (length octets - k) (drop k octets) in
    record {
      value_is = front ∙ ap (λ (m : ℕ). take m rest) e ∙ take_min size rest ∙ ap (take size) (take_rest octets k);
      left_is = back ∙ ap (λ (m : ℕ). drop m rest) e ∙ drop_min size rest ∙ ap (drop size) (take_rest octets k);
    }

-- Character strings.

string_first : (octets : List ℕ) (size : ℕ) → 1 ≤ length octets → size ≡ get_or octets 0 0 → string_at octets ≡ Some (take size (drop 1 octets), drop size (drop 1 octets))
string_first [] size some e = absurd (omega arith)
string_first (x ∷ octets) size some e = rw e refl

-- octets that are not empty: their first string, and then the strings of the octets after it
pub strings_first : (octets value left : List ℕ) (size : ℕ) → 1 ≤ length octets → size ≡ get_or octets 0 0 → Cut 1 octets size value left
    → strings_of octets ≡ value ∷ strings_of left
strings_first octets value left size some e cut =
    rw (cut.value_is, cut.left_is)
    (items_of_first string_at string_shrinks octets (drop size (drop 1 octets)) (take size (drop 1 octets)) (string_first octets size some e))

-- Prefixes.

-- the first prefix: its family, its size, and the octet of its bit and of the length of its address
pub record FirstPrefix (octets : List ℕ) (family size bits : ℕ) : Type 0 where
  pub some : 4 ≤ length octets
  pub family_is : family ≡ get_or octets 0 0 * 256 + get_or octets 1 0
  pub size_is : size ≡ get_or octets 2 0
  pub bits_is : bits ≡ get_or octets 3 0

abbrev prefix_of : ℕ → ℕ → ℕ → List ℕ → PrefixItem
prefix_of family size bits address = record { family = family; size = size; negated = nat_le 128 bits; address = address }

prefix_first : (octets : List ℕ) (family size bits : ℕ) → FirstPrefix octets family size bits
    → prefix_at octets ≡ Some (prefix_of family size bits (take (bits % 128) (drop 4 octets)), drop (bits % 128) (drop 4 octets))
prefix_first [] family size bits h = let few = h.some in absurd (omega arith)
prefix_first (a ∷ []) family size bits h = let few = h.some in absurd (omega arith)
prefix_first (a ∷ b ∷ []) family size bits h = let few = h.some in absurd (omega arith)
prefix_first (a ∷ b ∷ c ∷ []) family size bits h = let few = h.some in absurd (omega arith)
prefix_first (a ∷ b ∷ c ∷ d ∷ octets) family size bits h = rw (h.family_is, h.size_is, h.bits_is) refl

-- four octets or more: their first prefix, and then the prefixes of the octets after it
pub prefixes_first : (octets value left : List ℕ) (family size bits : ℕ) → FirstPrefix octets family size bits → Cut 4 octets (bits % 128) value left
    → prefixes_of octets ≡ prefix_of family size bits value ∷ prefixes_of left
prefixes_first octets value left family size bits h cut =
    rw (cut.value_is, cut.left_is)
    (items_of_first prefix_at prefix_shrinks octets (drop (bits % 128) (drop 4 octets)) (prefix_of family size bits (take (bits % 128) (drop 4 octets))) (prefix_first octets family size bits h))
