-- The words of a script's line, the numbers in them, and what reading words returns.
use Rattle.std.specs.Prelude.{◌≤◌, ℕ, ◌==◌, not, if◌then◌else◌, List, [], ◌∷◌, ◌++◌, length, map, Option, Some, None}
use Rattle.std.specs.Borrow.{Bor}
use Rattle.std.specs.List.{filter, flat_map, slice_split}
use Rattle.std.specs.Net.Grammar.{IsNumber}

-- words of a line
abbrev pub LineWords : Type 0
LineWords = List (Bor (List ℕ))

-- a line with a space for each tab
abbrev pub without_tabs : List ℕ → List ℕ
without_tabs line = map (λ c. if c == 9 then 32 else c) line

-- the words of a text, which spaces separate
abbrev pub words_of : List ℕ → List (List ℕ)
words_of text = filter (λ word. not (length word == 0)) (slice_split (λ c. c == 32) text)

-- words as texts
abbrev pub texts : LineWords → List (List ℕ)
texts words = map (λ word. word.now) words

-- words, with a space after each
abbrev pub spaced_words : LineWords → List ℕ
spaced_words words = flat_map (λ word. word.now ++ 32 ∷ []) words

-- the word is decimal digits, perhaps with leading zeros, of a number that is at most `most`
abbrev pub IsNumberUpTo : ℕ → List ℕ → ℕ → Type 0
IsNumberUpTo most word n = IsNumber 10 word n × (n ≤ most)

-- one word, of which `Is` holds
abbrev pub IsOnly : {X : Type 0} → (List ℕ → X → Type 0) → LineWords → X → Type 0
IsOnly Is (word ∷ []) x = Is word.now x
IsOnly Is words x = ⊥

-- The value that is read, seen by `view`, is one of which `Is` holds. `None` is read only if `Is` holds of none.
abbrev pub ReadsValue : {X Y : Type 0} → (X → Y) → (Y → Type 0) → Option X → Type 0
ReadsValue {X} {Y} view Is None = (y : Y) → ¬ (Is y)
ReadsValue view Is (Some x) = Is (view x)
