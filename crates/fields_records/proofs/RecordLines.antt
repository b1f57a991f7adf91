-- The printed text of a record.
use Rattle.std.proofs.Common.{◌≡◌, ℕ, List, ◌++◌, append_assoc, codes}

-- the words of a line, however they are joined
pub line_parts : (owner ttl class rtype value : List ℕ)
    → owner ++ (codes " " ++ ((ttl ++ codes " " ++ class ++ codes " ") ++ (rtype ++ codes " " ++ value)))
    ≡ owner ++ codes " " ++ ttl ++ codes " " ++ class ++ codes " " ++ rtype ++ codes " " ++ value
line_parts owner ttl class rtype value = simp append_assoc
