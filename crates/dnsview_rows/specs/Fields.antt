-- Rows of fields: their octets, and how many items begin at them.
use Rattle.std.specs.Prelude.{◌≡◌, ℕ, ◌<◌, ◌≤◌, List, ◌∷◌, ◌++◌, length, All}
use Rattle.std.specs.List.{sum_by}
use Rattle.dnsview_rows.specs.declared.row.Row.{Row}
use Rattle.dnsview_rows.specs.declared.row.RowKind.{RowKind}
use Rattle.dnsview_rows.specs.declared.row.RowKind.TheVariants as kinds
use Rattle.dnsview_rows.specs.declared.row.RowFault.{RowFault}
use Rattle.dnsview_rows.specs.declared.row.RowFault.TheVariants.{Short}
use Rattle.dnsview_rows.specs.declared.row.RowField.{RowField}
use Rattle.dnsview_rows.specs.declared.row.RowField.TheVariants as fields
use Rattle.dnsview_rows.specs.Tiles.{Tiles}

-- the row of a field
abbrev pub field_row : ℕ → ℕ → RowField → Row
field_row start end field = record { start = start; end = end; kind = kinds.Field field }

-- 1 for the field where an item begins, 0 for any other
abbrev pub items_at : RowField → ℕ
items_at (fields.Item _ _) = 1
items_at _ = 0

-- the row of a field: it is empty if an item begins there, and else has some octets
pub record IsField (row : Row) : Type 0 where
  pub field : RowField
  pub kind : row.kind ≡ kinds.Field field
  pub some : items_at field ≡ 0 → row.start < row.end
  pub none : items_at field ≡ 1 → row.start ≡ row.end

-- 1 for a row where an item begins, 0 for any other
abbrev pub items_of : RowKind → ℕ
items_of (kinds.Field field) = items_at field
items_of _ = 0

-- how many items begin at these rows
abbrev pub item_count : List Row → ℕ
item_count rows = sum_by (λ row. items_of row.kind) rows

-- the rows of fields that cover the octets from one offset to another
pub record AreFields (rows : List Row) (from to : ℕ) : Type 0 where
  pub tiles : Tiles rows from to
  pub fields : All IsField rows

-- Of consecutive fields, `rows` are those before an incomplete one, which begins at `offset` and runs past the end of the octets. The fault says which field it is.
pub record CutRows (b : List ℕ) (whole : List Row) (offset : ℕ) (fault : RowFault) (rows : List Row) : Type 0 where
  pub field : RowField
  pub end : ℕ
  pub after : List Row
  pub made : whole ≡ rows ++ field_row offset end field ∷ after
  pub within : offset ≤ length b
  pub short : length b < end
  pub reported : fault ≡ Short field
