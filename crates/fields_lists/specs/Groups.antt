-- Groups of octets.
use Rattle.std.specs.Prelude.{ℕ, nat_le, List, length, take, drop, Option, Some, None, if◌then◌else◌}
use Rattle.fields_lists.specs.Items.{items_of}

-- the first `size` octets, and the octets after them
abbrev pub group_at : ℕ → List ℕ → Option (List ℕ × List ℕ)
group_at size octets = if nat_le size (length octets) then Some (take size octets, drop size octets) else None

-- the consecutive groups of `size` octets
abbrev pub groups : ℕ → List ℕ → List (List ℕ)
groups size octets = items_of (group_at size) octets
