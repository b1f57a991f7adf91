-- Words with separators.
use Rattle.std.specs.Prelude.{ℕ, List, [], ◌∷◌, ◌++◌, codes, Option, Some}
use Rattle.std.specs.Fmt.{◌++?◌}

-- words, the first after `first` and each other after `others`
abbrev pub separated : List ℕ → List ℕ → List (List ℕ) → List ℕ
separated first others [] = []
separated first others (word ∷ words) = first ++ word ++ separated others others words

-- words with a comma between them
abbrev pub comma_text : List (List ℕ) → List ℕ
comma_text words = separated [] (codes ",") words

-- words with a space between them
abbrev pub spaced : List (List ℕ) → List ℕ
spaced words = separated [] (codes " ") words

-- words with a space between them, the first after `first`; none if one has no presentation format
abbrev pub spaced_if_all : List ℕ → List (Option (List ℕ)) → Option (List ℕ)
spaced_if_all first [] = Some []
spaced_if_all first (word ∷ words) = (Some first ++? word) ++? spaced_if_all (codes " ") words
