-- When rows are equal: if their octets are at the same offsets, and are the same. The name of a field of RDATA counts by its text, wherever that text is.
use Rattle.std.specs.Prelude.{◌≡◌}
use Rattle.dnsview_rows.specs.declared.row.RowField.{RowField}
use Rattle.dnsview_rows.specs.declared.row.RowField.TheVariants as fields
use Rattle.dnsview_rows.specs.declared.row.RowFault.{RowFault}
use Rattle.dnsview_rows.specs.declared.row.RowFault.TheVariants as faults
use Rattle.dnsview_rows.specs.declared.row.RowKind.{RowKind}
use Rattle.dnsview_rows.specs.declared.row.RowKind.TheVariants as kinds
use Rattle.dnsview_rows.specs.declared.row.NameOf.{NameOf}
use Rattle.dnsview_rows.specs.declared.row.NameOf.TheVariants as names
use Rattle.dnsview_rows.specs.declared.row.Row.{Row}

-- the same name of an item
abbrev pub SameName : NameOf → NameOf → Type 0
SameName (names.Field x) (names.Field y) = x.now ≡ y.now
SameName x y = x ≡ y

-- the same field of a message
abbrev pub SameField : RowField → RowField → Type 0
SameField (fields.Label x) (fields.Label y) = SameName x y
SameField (fields.Root x m) (fields.Root y n) = SameName x y × (m ≡ n)
SameField (fields.Pointer x m) (fields.Pointer y n) = SameName x y × (m ≡ n)
SameField (fields.Named x j) (fields.Named y k) = (x.now ≡ y.now) × (j ≡ k)
SameField x y = x ≡ y

-- the same fault
abbrev pub SameFault : RowFault → RowFault → Type 0
SameFault (faults.Short x) (faults.Short y) = SameField x y
SameFault x y = x ≡ y

-- octets that are the same
abbrev pub SameKind : RowKind → RowKind → Type 0
SameKind (kinds.Field x) (kinds.Field y) = SameField x y
SameKind (kinds.Fault x) (kinds.Fault y) = SameFault x y
SameKind x y = x ≡ y

-- the same row
pub record SameRow (x y : Row) : Type 0 where
  pub start : x.start ≡ y.start
  pub end : x.end ≡ y.end
  pub kind : SameKind x.kind y.kind
