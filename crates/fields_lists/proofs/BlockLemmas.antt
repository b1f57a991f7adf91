-- The blocks of type bit maps.
use Rattle.std.proofs.Common.{◌≡◌, ◌∙◌, ℕ, zero, suc, ◌+◌, ◌-◌, ◌*◌, ◌<◌, ◌≤◌, ◌++◌, true, List, [], ◌∷◌, length, take, drop, get_or, refl, ap, subst, arith, length-append, le-leb}
use Rattle.std.specs.List.{flat_map}
use Rattle.std.specs.Prelude.{nat_le, nat_lt, ◌&&◌}
use Rattle.std.proofs.Math.Seq.{drop-append_seam, take-append_seam}
use Rattle.std.proofs.lemmas.Bool.{and_from, and_parts, cond-true, false≢true, leb-true, lt-ltb}
use Rattle.hex.specs.Hex.{IsBytes}
use Rattle.fields_lists.specs.TypeMaps.{blocks_after, is_bit_map, Block, block_at, ends_nonzero, map_types, octet_types}
use Rattle.fields_lists.proofs.theory.SkippedItems.{skip_block}
use Rattle.fields_lists.proofs.theory.BlockLemmas.{block_shrinks}
use Rattle.fields_lists.proofs.theory.ItemLemmas.{items_of_first}
use Rattle.fields_text.proofs.theory.ByteLemmas.{bytes_append, nonzero}

-- the types of the first block and of the octets after it
pub map_first : (window size : ℕ) (octets : List ℕ) → size ≤ 32 → size ≤ length octets
    → map_types (window ∷ size ∷ octets) ≡ octet_types (window * 256) (take size octets) ++ map_types (drop size octets)
map_first window size octets short fits =
    ap (λ (blocks : List Block). flat_map (λ b. octet_types b.first b.octets) blocks)
    (items_of_first block_at block_shrinks (window ∷ size ∷ octets) (drop size octets) (record { first = window * 256; octets = take size octets })
    (cond-true _ _ _ (and_from _ _ (le-leb size 32 short) (le-leb size (length octets) fits))))

-- The types of a map are those of its first block and of the others.
pub map_more : (window : ℕ) (bits after : List ℕ) → length bits ≤ 32 → map_types (window ∷ length bits ∷ (bits ++ after)) ≡ octet_types (window * 256) bits ++ map_types after
map_more window bits after short =
    map_first window (length bits) (bits ++ after) short (omega (arith, length-append bits after))
    ∙ (λ i. octet_types (window * 256) (take-append_seam bits after i) ++ map_types (drop-append_seam bits after i))

-- the octets that a size counts, and the blocks after them
blocks_left : (least left : ℕ) (octets : List ℕ) → blocks_after least left octets ≡ true → (left ≤ length octets) × (blocks_after least 0 (drop left octets) ≡ true)
blocks_left least zero octets h = (omega arith, h)
blocks_left least (suc left) [] h = absurd (false≢true h)
blocks_left least (suc left) (x ∷ octets) h = let others = blocks_left least left octets h in (omega arith, others.1)

-- the first of blocks, and the others
pub record IsFirstBlock (window size : ℕ) (octets : List ℕ) : Type 0 where
  pub short : size ≤ 32
  pub fits : size ≤ length octets
  pub others : blocks_after (window + 1) 0 (drop size octets) ≡ true

-- A map that isn't empty begins with a block.
pub first_block : (least window size : ℕ) (octets : List ℕ) → blocks_after least 0 (window ∷ size ∷ octets) ≡ true → IsFirstBlock window size octets
first_block least window size octets h =
    let parts = and_parts (nat_le least window && is_bit_map size octets) (blocks_after (window + 1) size octets) h in
    let front = and_parts (nat_le least window) (is_bit_map size octets) parts.0 in
    let bits = and_parts (nat_le 1 size && nat_le size 32) (nat_lt 0 (get_or octets (size - 1) 0)) front.1 in
    let sizes = and_parts (nat_le 1 size) (nat_le size 32) bits.0 in
    let left = blocks_left (window + 1) size octets parts.1 in
    record { short = leb-true size 32 sizes.1; fits = left.0; others = left.1 }

-- blocks from a lower window on
pub weaken : (least window : ℕ) (blocks : List ℕ) → least ≤ window → blocks_after window 0 blocks ≡ true → blocks_after least 0 blocks ≡ true
weaken least window [] le h = refl
weaken least window (w ∷ []) le h = h
weaken least window (w ∷ size ∷ octets) le h =
    let parts = and_parts (nat_le window w && is_bit_map size octets) (blocks_after (w + 1) size octets) h in
    let front = and_parts (nat_le window w) (is_bit_map size octets) parts.0 in
    let above = leb-true window w front.0 in
    and_from _ _ (and_from _ _ (le-leb least w (omega arith)) front.1) parts.1

-- a block and others
last_some : (bits after : List ℕ) → ends_nonzero bits ≡ true → 0 < get_or (bits ++ after) (length bits - 1) 0
last_some [] after ends = absurd (false≢true ends)
last_some (x ∷ []) after ends = nonzero x ends
last_some (x ∷ y ∷ bits) after ends =
    let same : suc (length (y ∷ bits) - 1) ≡ length (x ∷ y ∷ bits) - 1 = omega arith in
    subst (λ (k : ℕ). 0 < get_or (x ∷ y ∷ (bits ++ after)) k 0) same (last_some (y ∷ bits) after ends)

some_bits : (bits : List ℕ) → ends_nonzero bits ≡ true → 1 ≤ length bits
some_bits [] ends = absurd (false≢true ends)
some_bits (x ∷ bits) ends = omega arith

skip_bits : (least : ℕ) (bits after : List ℕ) → blocks_after least (length bits) (bits ++ after) ≡ blocks_after least 0 after
skip_bits least bits after =
    skip_block least (length bits) (bits ++ after) (omega (arith, length-append bits after)) ∙ ap (blocks_after least 0) (drop-append_seam bits after)

-- A block before greater blocks is a map with them.
pub more_blocks : (least window : ℕ) (bits after : List ℕ) → least ≤ window → length bits ≤ 32 → ends_nonzero bits ≡ true → blocks_after (window + 1) 0 after ≡ true
    → blocks_after least 0 (window ∷ length bits ∷ (bits ++ after)) ≡ true
more_blocks least window bits after le short ends others =
    and_from _ _
    (and_from _ _ (le-leb least window le)
    (and_from _ _ (and_from _ _ (le-leb 1 (length bits) (some_bits bits ends)) (le-leb (length bits) 32 short)) (lt-ltb 0 (get_or (bits ++ after) (length bits - 1) 0) (last_some bits after ends))))
    (skip_bits (window + 1) bits after ∙ others)

-- A block and what is after it are octets.
pub block_bytes : (window : ℕ) (bits after : List ℕ) → window < 256 → length bits ≤ 32 → IsBytes bits → IsBytes after → IsBytes (window ∷ length bits ∷ (bits ++ after))
block_bytes window bits after small short first second zero = small
block_bytes window bits after small short first second (suc zero) = omega arith
block_bytes window bits after small short first second (suc (suc i)) = bytes_append bits after first second i
