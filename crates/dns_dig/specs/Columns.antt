-- Texts in columns. A column is where a text begins, as the number of characters before it in its line, if a tab leads to the next multiple of eight.
-- The columns are those of `dig` of BIND 9.18.
use Rattle.std.specs.Prelude.{ℕ, ◌+◌, ◌-◌, ◌/◌, ◌%◌, ◌==◌, nat_lt, if◌then◌else◌, List, [], ◌∷◌, ◌++◌, length, replicate, codes}

-- What precedes a text in this column, after a text that ends before column `from`: tabs that lead to the column, a multiple of eight.
-- If the other text reaches so far, it is one blank: a tab where that leads no further than a space, else a space.
abbrev pub gap : ℕ → ℕ → List ℕ
gap from column = if nat_lt from column then replicate (column / 8 - from / 8) 9 else if from % 8 == 7 then codes "\t" else codes " "

-- where a text in this column begins: after one blank if the other text reaches so far
abbrev pub begins_at : ℕ → ℕ → ℕ
begins_at from column = if nat_lt from column then column else from + 1

-- texts with their columns, each after its gap; the first comes after a text that ends before column `from`
abbrev pub in_columns : ℕ → List (ℕ × List ℕ) → List ℕ
in_columns from [] = []
in_columns from (cell ∷ cells) = gap from cell.0 ++ (cell.1 ++ in_columns (begins_at from cell.0 + length cell.1) cells)

-- a text, and others in columns after it
abbrev pub row : List ℕ → List (ℕ × List ℕ) → List ℕ
row first cells = first ++ in_columns (length first) cells
