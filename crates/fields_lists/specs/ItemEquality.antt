-- When items of lists are equal: by their numbers and octets, wherever the octets are.
use Rattle.std.specs.Prelude.{ℕ, Bool, List, ◌==◌}
use Rattle.std.specs.Bool.{beq}
use Rattle.std.specs.Cmp.Lexicographic.{pointwise}
use Rattle.std.specs.Ordering.{on, eq_of_both}
use Rattle.fields_lists.specs.declared.prefixes.AddressPrefix.{AddressPrefix}

-- whether octets are the same
abbrev pub octets_equal : List ℕ → List ℕ → Bool
octets_equal = pointwise ◌==◌

-- address prefixes: by family, size, negation and address. RFC 3123 section 4.
abbrev pub prefixes_equal : AddressPrefix → AddressPrefix → Bool
prefixes_equal =
    eq_of_both (on (λ prefix. prefix.family) ◌==◌)
    (eq_of_both (on (λ prefix. prefix.size) ◌==◌)
    (eq_of_both (on (λ prefix. prefix.negated) beq) (on (λ prefix. prefix.address.now) octets_equal)))
