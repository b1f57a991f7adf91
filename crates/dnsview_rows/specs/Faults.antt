-- Where a name can't be read, and how the fault of a row relates to the fault of the reading. RFC 1035 section 4.1.4.
--
-- `b` is the octets that are seen, and `of` says which name it is.
use Rattle.std.specs.Prelude.{◌≡◌, ℕ, ◌+◌, ◌-◌, ◌<◌, ◌≤◌, ⊤, List, length, Ok, Err}
use Rattle.dns_octets.specs.declared.error.TheConstants.FormError.{BAD_LABEL, BAD_POINTER, LONG_NAME}
use Rattle.dns_name.specs.Names.{Fault, FaultAt, Labels, NameAt, head_at, max_size}
use Rattle.dns_name.specs.Names.Fault.{ShortInput, Form}
use Rattle.dns_name.specs.declared.head.Head.TheVariants as heads
use Rattle.dnsview_rows.specs.Named.{LabelRows}
use Rattle.dnsview_rows.specs.declared.row.Row.{Row}
use Rattle.dnsview_rows.specs.declared.row.NameOf.{NameOf}
use Rattle.dnsview_rows.specs.declared.row.RowFault as rows
use Rattle.dnsview_rows.specs.declared.row.RowFault.TheVariants.{Short, Label, LongName, Pointer, After, LongPointer, Trailing}
use Rattle.dnsview_rows.specs.declared.row.RowField.TheVariants as fields

-- A name that begins at `start` can be read up to p, label by label, but not further. This is the fault that a row reports there.
pub data StopsName (b : List ℕ) (of : NameOf) (start p : ℕ) : rows.RowFault → Type 0 where
  -- no octet is there
  none : length b ≤ p → StopsName b of start p (Short (fields.Label of))
  -- only the first octet of a pointer is there
  half : p < length b → head_at b p ≡ Err ShortInput → StopsName b of start p (Short (fields.Pointer of start))
  -- a label runs past the end
  cut : {n : ℕ} → head_at b p ≡ Ok (heads.Label n) → (p - start) + n + 1 ≤ max_size → length b < p + 1 + n → StopsName b of start p (Short (fields.Label of))
  -- the octet begins neither a label nor a pointer
  label : head_at b p ≡ Err (Form BAD_LABEL) → StopsName b of start p Label
  -- the name is too long with this label
  long : {n : ℕ} → head_at b p ≡ Ok (heads.Label n) → max_size < (p - start) + n + 1 → StopsName b of start p LongName
  -- the pointer doesn't lead back
  ahead : {t : ℕ} → head_at b p ≡ Ok (heads.Pointer t) → p ≤ t → StopsName b of start p Pointer
  -- the pointer leads to octets from which no name can be read
  after : {t : ℕ} {f : Fault} → head_at b p ≡ Ok (heads.Pointer t) → t < p → FaultAt b t f → StopsName b of start p After
  -- the pointer leads to a name
  pointed : {t : ℕ} {name : Labels} → head_at b p ≡ Ok (heads.Pointer t) → t < p → NameAt b t name → StopsName b of start p LongPointer

-- The fault of the reading that belongs to a row's fault. For an incomplete field it is `ShortInput`, for a malformed name the cause. For a pointer to a name
-- that can't be read it is any of them. Octets after the last field of RDATA are no fault of the reading.
abbrev pub ReportsFault : rows.RowFault → Fault → Type 0
ReportsFault (Short field) f = f ≡ ShortInput
ReportsFault Label f = f ≡ Form BAD_LABEL
ReportsFault LongName f = f ≡ Form LONG_NAME
ReportsFault Pointer f = f ≡ Form BAD_POINTER
ReportsFault After f = ⊤
ReportsFault LongPointer f = f ≡ Form LONG_NAME
ReportsFault Trailing f = ⊥

-- No name can be read at p. Its labels extend to `offset` and have these rows, and `fault` is why it can't be read further.
pub record LacksName (b : List ℕ) (of : NameOf) (p : ℕ) (f : Fault) (offset : ℕ) (fault : rows.RowFault) (shown : List Row) : Type 0 where
  pub faulty : FaultAt b p f
  pub labels : LabelRows b of p p offset shown
  pub stops : StopsName b of p offset fault
  pub reports : ReportsFault fault f
