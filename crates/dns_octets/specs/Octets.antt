-- Octets and what holds them. RFC 1035 section 2.3.
use Rattle.std.specs.Prelude.{◌≡◌, ℕ, ◌+◌, List, ◌++◌, length, take, drop}

-- Octets after others were written over them, from offset `offset` on.
abbrev pub overwritten : List ℕ → ℕ → List ℕ → List ℕ
overwritten b offset octets = take offset b ++ octets ++ drop (offset + length octets) b

-- Cloning doesn't fail, and each possible clone has the same octets.
abbrev pub ClonesSurely : {X : Type 0} → (X → Type 0) → (X → X → Type 0) → (X → List ℕ) → X → Type 0
ClonesSurely {X = X} is_infallible is_clone octets_of x = is_infallible x × ((y : X) → is_clone x y → octets_of y ≡ octets_of x)
