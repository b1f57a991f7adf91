-- The steps of an iterator over the types of a type bit map.
use Rattle.std.proofs.Common.{◌≡◌, ◌∙◌, ℕ, ◌+◌, ◌-◌, ◌*◌, ◌<◌, ◌≤◌, ◌++◌, List, [], ◌∷◌, append_assoc, drop, length, length-drop, length-take, get_or, take, ap, refl, arith, sym, Some}
use Rattle.std.proofs.lemmas.List.{take_all}
use Rattle.std.specs.List.{flat_map}
use Rattle.fields_lists.proofs.theory.BlockLemmas.{block_shrinks, block_size}
use Rattle.fields_lists.proofs.theory.ItemLemmas.{items_of_first}
use Rattle.fields_lists.specs.TypeItems.{types_after}
use Rattle.fields_lists.specs.TypeMaps.{Block, bit_types, block_at, map_types, octet_types}

-- the next octet of a block
octet_next : (first octet : ℕ) (block left : List ℕ) (next : ℕ) → 1 ≤ length block → next ≡ get_or block 0 0
    → types_after first 0 octet block left ≡ types_after first 8 next (take (length block - 1) (drop 1 block)) left
octet_next first octet [] left next some is = absurd (omega arith)
octet_next first octet (x ∷ block) left next some is =
    let same_first : first + 0 ≡ first = omega arith in
    let whole : block ≡ take (length (x ∷ block) - 1) block = sym (take_all (length (x ∷ block) - 1) block (omega arith)) in
    ap (λ (n : ℕ). octet_types n (x ∷ block) ++ map_types left) same_first
    ∙ append_assoc (bit_types 8 first x) (octet_types (first + 8) block) (map_types left)
    ∙ (λ i. bit_types 8 first (sym is i) ++ (octet_types (first + 8) (whole i) ++ map_types left))

-- the next block
block_first : (octets : List ℕ) (first : ℕ) (block after : List ℕ) → block_at octets ≡ Some (record { first = first; octets = block }, after)
    → map_types octets ≡ octet_types first block ++ map_types after
block_first octets first block after e =
    ap (λ (bs : List Block). flat_map (λ b. octet_types b.first b.octets) bs) (items_of_first block_at block_shrinks octets after (record { first = first; octets = block }) e)

block_next : (first octet : ℕ) (block left : List ℕ) (next : ℕ) (own after : List ℕ) → length block < 1 → block_at left ≡ Some (record { first = next; octets = own }, after)
    → types_after first 0 octet block left ≡ types_after next 0 0 own after
block_next first octet [] left next own after none e =
    let same_first : next ≡ next + 0 = omega arith in
    block_first left next own after e ∙ ap (λ (n : ℕ). octet_types n own ++ map_types after) same_first
block_next first octet (x ∷ block) left next own after none e = absurd (omega arith)

-- the same where no bit is left
pub octet_taken : (first count octet : ℕ) (block left : List ℕ) → count ≤ 0 → 1 ≤ length block
    → (types_after first count octet block left ≡ types_after first 8 (get_or block 0 0) (take (length block - 1) (drop 1 block)) left)
    × (8 + (9 * length (take (length block - 1) (drop 1 block)) + 9 * length left) < count + (9 * length block + 9 * length left))
octet_taken first count octet block left none some =
    let last : count ≡ 0 = omega arith in (
      ap (λ (n : ℕ). types_after first n octet block left) last ∙ octet_next first octet block left (get_or block 0 0) some refl,
      (let t = length-take (length block - 1) (drop 1 block) in let d = length-drop 1 block in omega (arith, t, d)),
    )

-- the same where no octet is left: the next block
pub block_taken : (first count octet : ℕ) (block left : List ℕ) (next : ℕ) (own after : List ℕ) → count ≤ 0 → length block < 1 → block_at left ≡ Some (record { first = next; octets = own }, after)
    → (types_after first count octet block left ≡ types_after next 0 0 own after) × (0 + (9 * length own + 9 * length after) < count + (9 * length block + 9 * length left))
block_taken first count octet block left next own after none empty e =
    let last : count ≡ 0 = omega arith in (
      ap (λ (n : ℕ). types_after first n octet block left) last ∙ block_next first octet block left next own after empty e,
      (let fewer = block_size left (record { first = next; octets = own }) after e in omega (arith, fewer)),
    )
