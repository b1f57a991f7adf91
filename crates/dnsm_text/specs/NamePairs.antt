-- Two names, each encoded in a message of its own. RFC 1035 section 4.1.4.
use Rattle.std.specs.Prelude.{◌≡◌, ℕ, ◌⊎◌, List}
use Rattle.dns_name.specs.Names.{Labels, NameAt}
use Rattle.dnsm_read.specs.Names.{LacksName}

-- the names at offset p of the octets b and at offset q of the octets c have the property
abbrev pub AreNamesAt : List ℕ → ℕ → List ℕ → ℕ → (Labels → Labels → Type 0) → Type 0
AreNamesAt b p c q P = (m : Labels) × (n : Labels) × NameAt b p m × NameAt c q n × P m n

-- one of them can't be read, and the number says why: the first name, or else the second
abbrev pub LacksNames : List ℕ → ℕ → List ℕ → ℕ → ℕ → Type 0
LacksNames b p c q fault = LacksName b p fault ⊎ (((m : Labels) × NameAt b p m) × LacksName c q fault)

-- n says whether the property holds: 1 if it does, else 0
abbrev pub IsFlagOf : Type 0 → ℕ → Type 0
IsFlagOf P n = ((n ≡ 1) × P) ⊎ ((n ≡ 0) × ¬ P)
