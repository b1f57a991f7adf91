-- What precedes a text in a column.
use Rattle.std.proofs.Common.{◌≡◌, ℕ, ◌-◌, ◌/◌, ◌%◌, ◌<◌, ◌≤◌, codes}
use Rattle.std.proofs.lemmas.Bool.{eq-eqb, le-ltb, lt-ltb, ne_eqb}
use Rattle.std.specs.Prelude.{replicate}
use Rattle.dns_dig.specs.Columns.{gap}

-- Before the column there are tabs.
pub gap_before : (from column : ℕ) → from < column → replicate (column / 8 - from / 8) 9 ≡ gap from column
gap_before from column before = rw (lt-ltb from column before)

-- In it or after it there is a tab, if a tab stop follows,
pub gap_tab : (from column : ℕ) → column ≤ from → from % 8 ≡ 7 → codes "\t" ≡ gap from column
gap_tab from column past last = rw (le-ltb from column past, eq-eqb (from % 8) 7 last)

-- and else a space.
pub gap_space : (from column : ℕ) → column ≤ from → (from % 8 ≡ 7 → ⊥) → codes " " ≡ gap from column
gap_space from column past other = rw (le-ltb from column past, ne_eqb (from % 8) 7 other)
