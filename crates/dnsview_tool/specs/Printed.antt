-- What a function appends to the contents of a writer, if the text isn't fixed to the octet.
use Rattle.std.specs.Prelude.{ℕ, List, Option}
use Rattle.std.specs.Io.KnownBytes.{Appends}
use Rattle.std.specs.List.{concat, AllZip}

-- a text of this form is appended
abbrev pub Prints : (List ℕ → Type 0) → Option (List ℕ) → Option (List ℕ) → Type 0
Prints IsText old new = (text : List ℕ) × IsText text × Appends old new text

-- texts are appended in order, one for each item of a list
abbrev pub PrintsEach : {X : Type 0} → (X → List ℕ → Type 0) → List X → Option (List ℕ) → Option (List ℕ) → Type 0
PrintsEach IsText xs old new = (texts : List (List ℕ)) × AllZip IsText xs texts × Appends old new (concat texts)
