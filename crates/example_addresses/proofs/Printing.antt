-- Texts that are printed one after another.
use Rattle.std.proofs.Common.{◌≡◌, List, ◌++◌, ℕ, append_assoc}

-- four texts, grouped from the left
pub regrouped : (a b c d : List ℕ) → a ++ (b ++ (c ++ d)) ≡ a ++ b ++ c ++ d
regrouped a b c d = simp append_assoc
