-- Consecutive items in octets.
use Rattle.std.specs.Prelude.{ℕ, zero, suc, List, [], ◌∷◌, length, Option}
use Rattle.std.specs.Option.{option_map_or}

-- at most `count` items: the first one, and those in the octets after it, up to octets that begin with none
abbrev pub items_in : {A : Type 0} → (List ℕ → Option (A × List ℕ)) → ℕ → List ℕ → List A
items_in item_at zero octets = []
items_in item_at (suc count) octets = option_map_or (λ first. first.0 ∷ items_in item_at count first.1) (item_at octets) []

-- the items of octets, by the item that octets begin with and the octets after it
abbrev pub items_of : {A : Type 0} → (List ℕ → Option (A × List ℕ)) → List ℕ → List A
items_of item_at octets = items_in item_at (length octets) octets
