-- The first service parameter of octets.
use Rattle.std.proofs.Common.{◌≡◌, ℕ, ◌+◌, ◌*◌, ◌≤◌, List, [], ◌∷◌, length, get_or, take, drop, Some, refl, arith}
use Rattle.fields_parameters.specs.ParameterItems.{ParameterItem, parameter_at, parameters_of}
use Rattle.fields_lists.proofs.theory.ItemLemmas.{items_of_first}
use Rattle.fields_parameters.proofs.theory.Shrinking.{parameter_shrinks}
use Rattle.fields_lists.proofs.theory.ItemKinds.{Cut}

-- Parameters.

-- the first parameter: its key, and the size of its value
pub record FirstParameter (octets : List ℕ) (key size : ℕ) : Type 0 where
  pub some : 4 ≤ length octets
  pub key_is : key ≡ get_or octets 0 0 * 256 + get_or octets 1 0
  pub size_is : size ≡ get_or octets 2 0 * 256 + get_or octets 3 0

abbrev parameter_of : ℕ → List ℕ → ParameterItem
parameter_of key value = record { key = key; value = value }

parameter_first : (octets : List ℕ) (key size : ℕ) → FirstParameter octets key size
    → parameter_at octets ≡ Some (parameter_of key (take size (drop 4 octets)), drop size (drop 4 octets))
parameter_first [] key size h = let few = h.some in absurd (omega arith)
parameter_first (a ∷ []) key size h = let few = h.some in absurd (omega arith)
parameter_first (a ∷ b ∷ []) key size h = let few = h.some in absurd (omega arith)
parameter_first (a ∷ b ∷ c ∷ []) key size h = let few = h.some in absurd (omega arith)
parameter_first (a ∷ b ∷ c ∷ d ∷ octets) key size h = rw (h.key_is, h.size_is) refl

-- four octets or more: their first parameter, and then the parameters of the octets after it
pub parameters_first : (octets value left : List ℕ) (key size : ℕ) → FirstParameter octets key size → Cut 4 octets size value left
    → parameters_of octets ≡ parameter_of key value ∷ parameters_of left
parameters_first octets value left key size h cut =
    rw (cut.value_is, cut.left_is)
    (items_of_first parameter_at parameter_shrinks octets (drop size (drop 4 octets)) (parameter_of key (take size (drop 4 octets))) (parameter_first octets key size h))
