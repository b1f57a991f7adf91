-- The row of the extended RCODE that the title of a page uses. Only an OPT record of the additional section extends the RCODE: RFC 6891 sections 6.1.1 and 6.1.3.
use Rattle.std.specs.Prelude.{ℕ, ◌+◌, Bool, true, false, Option, Some, None, List, drop, find, position}
use Rattle.dnsview_rows.specs.declared.row.Row.{Row}
use Rattle.dnsview_rows.specs.declared.row.RowKind.{RowKind}
use Rattle.dnsview_rows.specs.declared.row.RowKind.TheVariants as kinds
use Rattle.dnsview_rows.specs.declared.row.RowField.TheVariants as fields
use Rattle.dnsview_rows.specs.declared.row.Part.TheVariants as parts

-- whether an item of the additional section begins here
abbrev pub begins_additional : RowKind → Bool
begins_additional (kinds.Field (fields.Item parts.Additional _)) = true
begins_additional _ = false

-- whether the octet is the extended RCODE of an OPT record
abbrev pub is_extended_rcode : RowKind → Bool
is_extended_rcode (kinds.Field fields.ExtendedRcode) = true
is_extended_rcode _ = false

abbrev pub first_extended : List Row → Option Row
first_extended rows = find (λ row. is_extended_rcode row.kind) rows

-- the index of the row where the additional section begins
abbrev pub additional_index : List Row → Option ℕ
additional_index rows = position (λ row. begins_additional row.kind) rows

abbrev pub extended_after : List Row → Option ℕ → Option Row
extended_after rows None = None
extended_after rows (Some index) = first_extended (drop (index + 1) rows)

-- the row of the first extended RCODE in the additional section
abbrev pub extended_row : List Row → Option Row
extended_row rows = extended_after rows (additional_index rows)
