-- Rows that cover octets, each octet exactly once and in order.
use Rattle.std.specs.Prelude.{◌≡◌, ℕ, ◌≤◌, List, [], ◌∷◌}
use Rattle.dnsview_rows.specs.declared.row.Row.{Row}

-- the rows are consecutive: the first begins at `start`, each other where the one before it ends, and the last ends at `end`
abbrev pub Tiles : List Row → ℕ → ℕ → Type 0
Tiles [] start end = start ≡ end
Tiles (row ∷ rows) start end = (row.start ≡ start) × (start ≤ row.end) × Tiles rows row.end end
