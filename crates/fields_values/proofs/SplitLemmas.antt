-- Texts in strings.
use Rattle.std.proofs.Common.{ℕ, List, ◌++◌}
use Rattle.std.specs.Borrow.{Bor}
use Rattle.fields_values.specs.Named.{IsSplit}

-- strings, followed by those of the text that is left, are the text
abbrev pub ContinuesSplit : List ℕ → List (Bor (List ℕ)) → List ℕ → Type 0
ContinuesSplit text strings left = (more : List (Bor (List ℕ))) → IsSplit left more → IsSplit text (strings ++ more)
