-- The types of bit maps.
use Rattle.std.proofs.Common.{◌≡◌, ◌∙◌, ℕ, zero, suc, ◌+◌, ◌-◌, ◌*◌, ◌%◌, ◌<◌, ◌≤◌, ◌++◌, true, false, List, [], ◌∷◌, length, get_or, take, drop, ap, sym, arith, leb, Some}
use Rattle.std.proofs.lemmas.Grind.{flat_map-append}
use Rattle.std.proofs.lemmas.List.{take_rest}
use Rattle.std.specs.List.{flat_map}
use Rattle.fields_lists.proofs.theory.BlockLemmas.{block_shrinks}
use Rattle.fields_lists.proofs.theory.ItemLemmas.{items_of_first}
use Rattle.fields_lists.specs.TypeMaps.{Block, bit_types, block_at, map_types, octet_types, types_text}
use Rattle.fields_plain.specs.TypeNames.{type_word}

-- the text of types, and then of others
pub text_of_types : (xs ys : List ℕ) → types_text (xs ++ ys) ≡ types_text xs ++ types_text ys
text_of_types xs ys = flat_map-append (λ rtype. 32 ∷ type_word rtype) xs ys

-- the highest bit is set
pub bit_set : (count first octet : ℕ) → 0 < count → leb 128 octet ≡ true → types_text (bit_types count first octet) ≡ (32 ∷ type_word first) ++ types_text
    (bit_types (count - 1) (first + 1) (octet % 128 * 2))
bit_set zero first octet some set = absurd (omega arith)
bit_set (suc count) first octet some set =
    let same : count ≡ suc count - 1 = omega arith in
    rw set (ap (λ n. (32 ∷ type_word first) ++ types_text (bit_types n (first + 1) (octet % 128 * 2))) same)

-- it isn't
pub bit_clear : (count first octet : ℕ) → 0 < count → leb 128 octet ≡ false → types_text (bit_types count first octet) ≡ types_text (bit_types (count - 1) (first + 1) (octet % 128 * 2))
bit_clear zero first octet some clear = absurd (omega arith)
bit_clear (suc count) first octet some clear =
    let same : count ≡ suc count - 1 = omega arith in
    rw clear (ap (λ n. types_text (bit_types n (first + 1) (octet % 128 * 2))) same)

-- the types of the first octet, and then those of the octets after it
pub octet_step : (first : ℕ) (octets : List ℕ) → 1 ≤ length octets
    → types_text (bit_types 8 first (get_or octets 0 0)) ++ types_text (octet_types (first + 8) (take (length octets - 1) (drop 1 octets))) ≡ types_text (octet_types first octets)
octet_step first [] some = absurd (omega arith)
octet_step first (x ∷ octets) some =
    ap (λ (xs : List ℕ). types_text (bit_types 8 first x) ++ types_text (octet_types (first + 8) xs)) (take_rest (x ∷ octets) 1)
    ∙ sym (text_of_types (bit_types 8 first x) (octet_types (first + 8) octets))

-- octets that begin with a block: the types of that block, and then those of the octets after it
pub block_step : (octets : List ℕ) (first : ℕ) (block after : List ℕ) → block_at octets ≡ Some (record { first = first; octets = block }, after)
    → types_text (map_types octets) ≡ types_text (octet_types first block) ++ types_text (map_types after)
block_step octets first block after e =
    ap (λ (bs : List Block). types_text (flat_map (λ b. octet_types b.first b.octets) bs)) (items_of_first block_at block_shrinks octets after (record { first = first; octets = block }) e)
    ∙ text_of_types (octet_types first block) (map_types after)
