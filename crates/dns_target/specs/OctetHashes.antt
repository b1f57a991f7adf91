-- The hash of octets, of labels and of whole names.
use Rattle.std.specs.Prelude.{ℕ, ◌/◌, ◌^◌, List}
use Rattle.std.specs.Hash.FoldHasher.{initial, write, finish}

-- the hash of octets
unfoldable pub octets_hash : List ℕ → ℕ
octets_hash octets = finish (write initial octets) / 2 ^ 32
