-- The blocks of type bit maps.
use Rattle.std.proofs.Common.{◌≡◌, ℕ, suc, ◌+◌, ◌*◌, ◌<◌, true, false, cond, List, [], ◌∷◌, length, take, drop, ap, arith, leb, length-drop, length-take, Option, Some, None}
use Rattle.std.specs.Option.{option_map_or}
use Rattle.std.specs.Prelude.{◌&&◌}
use Rattle.fields_lists.proofs.theory.ItemLemmas.{IsShrinking}
use Rattle.fields_lists.specs.TypeMaps.{Block, block_at}

-- a block and the octets after it are fewer than the octets
pub block_size : (octets : List ℕ) (block : Block) (after : List ℕ) → block_at octets ≡ Some (block, after) → length block.octets + length after < length octets
block_size [] block after e = cc
block_size (window ∷ []) block after e = cc
block_size (window ∷ size ∷ octets) block after e =
    let size_of = length-drop size octets in
    let own_of = length-take size octets in
    let found : Option (Block × List ℕ) = Some (record { first = window * 256; octets = take size octets }, drop size octets) in
    elim (leb size 32 && leb size (length octets)) as (λ b. cond b found None ≡ Some (block, after) → length block.octets + length after < suc (suc (length octets))) [
      | true ↦ λ same.
          let left : drop size octets ≡ after = ap (λ (o : Option (Block × List ℕ)). option_map_or (λ split. split.1) o []) same in
          let own : take size octets ≡ block.octets = ap (λ (o : Option (Block × List ℕ)). option_map_or (λ split. split.0.octets) o []) same in
          let n = ap length left in let m = ap length own in omega (arith, size_of, own_of, n, m)
      | false ↦ λ none. cc
    ] e

-- the octets after a block are fewer than those that begin with it
pub block_shrinks : IsShrinking block_at
block_shrinks octets after block e = let fewer = block_size octets block after e in omega arith
