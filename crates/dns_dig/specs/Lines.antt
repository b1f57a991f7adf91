-- Lines below a heading that are printed one after another.
use Rattle.std.specs.Prelude.{ℕ, Bool, true, if◌then◌else◌, List, [], ◌∷◌, ◌++◌, codes}

-- a line of a section, after the heading unless that is printed already
abbrev pub line_text : List ℕ → Bool → List ℕ → List ℕ
line_text heading begun line = (if begun then [] else heading) ++ line

-- lines of a section in this way
abbrev pub lines_text : List ℕ → Bool → List (List ℕ) → List ℕ
lines_text heading begun [] = []
lines_text heading begun (line ∷ lines) = line_text heading begun line ++ lines_text heading true lines

-- the empty line after the lines of a section, if there are any
abbrev pub end_text : Bool → List ℕ
end_text begun = if begun then codes "\n" else []

-- whether the heading is printed after these lines
abbrev pub begun_after : Bool → List (List ℕ) → Bool
begun_after begun [] = begun
begun_after begun (line ∷ lines) = true
