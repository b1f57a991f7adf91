-- The octets of a row, and what they are. RFC 1035 section 4.1.
use Rattle.std.specs.Prelude.{ℕ, ◌+◌, ◌*◌, ◌%◌, ◌^◌, ◌&&◌, Bool, true, false, nat_le, if◌then◌else◌, List, [], ◌∷◌, length, slice_range}
use Rattle.dnsview_rows.specs.declared.row.Row.{Row}
use Rattle.dnsview_rows.specs.declared.row.RowKind.{RowKind}
use Rattle.dnsview_rows.specs.declared.row.RowKind.TheVariants as kinds
use Rattle.dnsview_rows.specs.declared.row.RowField.TheVariants as fields

-- whether an item begins here
abbrev pub is_item : RowKind → Bool
is_item (kinds.Field (fields.Item _ _)) = true
is_item _ = false

-- whether the octets are a compression pointer
abbrev pub is_pointer : RowKind → Bool
is_pointer (kinds.Field (fields.Pointer _ _)) = true
is_pointer _ = false

-- the octets of a row; none if the row isn't within the message
abbrev pub row_octets : List ℕ → Row → List ℕ
row_octets message row = if nat_le row.start row.end && nat_le row.end (length message) then slice_range message row.start row.end else []

-- the offset that a 2-octet pointer leads to: its lower 14 bits. RFC 1035 section 4.1.4.
abbrev pub target_in : List ℕ → ℕ
target_in (high ∷ low ∷ []) = (high * 256 + low) % 2 ^ 14
target_in _ = 0
