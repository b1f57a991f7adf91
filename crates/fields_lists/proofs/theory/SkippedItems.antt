-- The octets of an item are skipped.
use Rattle.std.proofs.Common.{◌≡◌, ℕ, zero, suc, ◌≤◌, List, [], ◌∷◌, length, drop, refl, arith}
use Rattle.fields_lists.specs.Prefixes.{prefixes_after}
use Rattle.fields_lists.specs.Strings.{strings_after}
use Rattle.fields_lists.specs.TypeMaps.{blocks_after}

-- those of a character string
pub skip_string : (left : ℕ) (xs : List ℕ) → left ≤ length xs → strings_after left xs ≡ strings_after 0 (drop left xs)
skip_string zero xs l = refl
skip_string (suc left) [] l = absurd (omega arith)
skip_string (suc left) (x ∷ xs) l = skip_string left xs (omega arith)

-- those of a block of a type bit map
pub skip_block : (least left : ℕ) (xs : List ℕ) → left ≤ length xs → blocks_after least left xs ≡ blocks_after least 0 (drop left xs)
skip_block least zero xs l = refl
skip_block least (suc left) [] l = absurd (omega arith)
skip_block least (suc left) (x ∷ xs) l = skip_block least left xs (omega arith)

-- those of the address of a prefix
pub skip_address : (left : ℕ) (xs : List ℕ) → left ≤ length xs → prefixes_after left xs ≡ prefixes_after 0 (drop left xs)
skip_address zero xs l = refl
skip_address (suc left) [] l = absurd (omega arith)
skip_address (suc left) (x ∷ xs) l = skip_address left xs (omega arith)
