-- RDATA that is an address.
use Rattle.std.specs.Prelude.{◌≡◌, ◌⊎◌, ℕ, List, length}

-- RDATA of a type is an address: four octets of type A, or sixteen of type AAAA. RFC 1035 section 3.4.1, RFC 3596 section 2.2
abbrev pub IsAddress : ℕ → List ℕ → Type 0
IsAddress rtype rdata = ((rtype ≡ 1) × (length rdata ≡ 4)) ⊎ ((rtype ≡ 28) × (length rdata ≡ 16))
