-- The steps of printing locators.
use Rattle.std.proofs.Common.{◌≡◌, ℕ, ◌<◌, [], ◌∷◌, ◌++◌, List, length, take, drop, refl, codes, arith}
use Rattle.fields_plain.specs.LocatorWords.{locator_text}

-- more than two octets: the first two, a colon, and the octets after them
pub locator_of_more : (octets : List ℕ) → 2 < length octets → locator_text octets ≡ (locator_text (take 2 octets) ++ codes ":") ++ locator_text (drop 2 octets)
locator_of_more [] h = absurd (omega arith)
locator_of_more (a ∷ []) h = absurd (omega arith)
locator_of_more (a ∷ b ∷ []) h = absurd (omega arith)
locator_of_more (a ∷ b ∷ c ∷ octets) h = refl
