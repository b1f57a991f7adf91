-- Octets that are printed as they are.
use Rattle.std.specs.Prelude.{◌≡◌, ◌<◌, ℕ, All, List, [], ◌∷◌}

-- The octet is an ASCII character, which is its own text.
abbrev pub IsPlain : (ℕ → List ℕ) → ℕ → Type 0
IsPlain text octet = (octet < 128) × (text octet ≡ octet ∷ [])

-- Each octet is so.
abbrev pub AllPlain : (ℕ → List ℕ) → List ℕ → Type 0
AllPlain text octets = All (IsPlain text) octets
