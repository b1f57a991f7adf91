-- Uncompressed names among octets. RFC 1035 section 3.1.
use Rattle.std.specs.Prelude.{ℕ, zero, suc, ◌+◌, ◌-◌, ◌==◌, nat_le, ◌&&◌, Bool, true, false, Option, Some, None, List, [], ◌∷◌, length, if◌then◌else◌}

-- whether a label of this length can follow labels of `size` octets: it has at most 63 octets, and all labels take at most 254
abbrev pub can_follow : ℕ → ℕ → Bool
can_follow size n = nat_le n 63 && nat_le (size + 1 + n) 254

-- The size of a name whose labels so far take `size` octets, of which `left` are yet to come: labels follow, each a length octet and that number of octets, and then a zero octet.
abbrev pub name_size_after : ℕ → ℕ → List ℕ → Option ℕ
name_size_after size left [] = None
name_size_after size zero (n ∷ octets) =
    if n == 0 then Some (size + 1)
    else if can_follow size n then name_size_after (size + 1 + n) n octets
    else None
name_size_after size (suc left) (octet ∷ octets) = name_size_after size left octets

-- the size of the uncompressed name at the start of the octets, if one is there
abbrev pub plain_name_size : List ℕ → Option ℕ
plain_name_size octets = name_size_after 0 0 octets

-- the size of the first name, less its first octet; more than there are octets if no name is there
abbrev pub left_of_name : List ℕ → Option ℕ → ℕ
left_of_name octets None = length octets + 1
left_of_name octets (Some size) = size - 1

-- `left` octets that end a name, and then uncompressed names
abbrev pub names_after : ℕ → List ℕ → Bool
names_after zero [] = true
names_after (suc left) [] = false
names_after zero (octet ∷ octets) = names_after (left_of_name octets (plain_name_size (octet ∷ octets))) octets
names_after (suc left) (octet ∷ octets) = names_after left octets

-- whether the octets are consecutive uncompressed names, perhaps none
abbrev pub are_plain_names : List ℕ → Bool
are_plain_names octets = names_after 0 octets
