-- What splitting a block off a type bit map returns.
use Rattle.std.specs.Prelude.{◌≡◌, ◌≤◌, ◌+◌, ◌*◌, ℕ, List, length, Option, Some, None}
use Rattle.std.specs.Borrow.{Bor}
use Rattle.fields_lists.specs.TypeMaps.{block_at}

-- the first type and the octets of the block, whose types are below 65,536, and the octets after it
abbrev pub SplitsBlock : List ℕ → Option (ℕ × Bor (List ℕ) × Bor (List ℕ)) → Type 0
SplitsBlock octets None = block_at octets ≡ None
SplitsBlock octets (Some split) =
    (block_at octets ≡ Some (record { first = split.0; octets = split.1.now }, split.2.now))
    × (split.0 + 8 * length split.1.now ≤ 65536)
