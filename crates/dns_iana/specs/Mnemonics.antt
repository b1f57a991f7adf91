-- The mnemonics of record types and classes.
use Rattle.std.specs.Prelude.{ℕ, List, [], ◌∷◌, Option, option_map, find, ◌==◌, codes}

-- numbers with their mnemonics
abbrev pub Mnemonics : Type 0
Mnemonics = List (ℕ × List ℕ)

-- the mnemonics of record types: RFC 1035 sections 3.2.2 and 3.2.3, RFC 3596 section 2.1 (AAAA), RFC 6891 section 6.1.1 (OPT), RFC 1995 (IXFR).
unfoldable pub type_mnemonics : Mnemonics
type_mnemonics =
    (1, codes "A")
    ∷ (2, codes "NS")
    ∷ (5, codes "CNAME")
    ∷ (6, codes "SOA")
    ∷ (12, codes "PTR")
    ∷ (15, codes "MX")
    ∷ (16, codes "TXT")
    ∷ (28, codes "AAAA")
    ∷ (41, codes "OPT")
    ∷ (251, codes "IXFR")
    ∷ (252, codes "AXFR")
    ∷ (255, codes "ANY")
    ∷ []

-- the mnemonics of classes: RFC 1035 section 3.2.4.
unfoldable pub class_mnemonics : Mnemonics
class_mnemonics = (1, codes "IN") ∷ (3, codes "CH") ∷ (4, codes "HS") ∷ []

-- the mnemonic of a number, if it has one
abbrev pub mnemonic : Mnemonics → ℕ → Option (List ℕ)
mnemonic names n = option_map (λ entry. entry.1) (find (λ entry. entry.0 == n) names)
