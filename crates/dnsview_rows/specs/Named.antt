-- The rows of names. RFC 1035 section 4.1.4.
--
-- `b` is the octets of the message.
use Rattle.std.specs.Prelude.{◌≡◌, ℕ, ◌+◌, ◌-◌, ◌≤◌, List, [], ◌∷◌, length, Ok}
use Rattle.dns_name.specs.Names.{head_at, max_size}
use Rattle.dns_name.specs.declared.head.Head.TheVariants.{Root, Label, Pointer}
use Rattle.dnsview_rows.specs.Fields.{field_row}
use Rattle.dnsview_rows.specs.declared.row.Row.{Row}
use Rattle.dnsview_rows.specs.declared.row.NameOf.{NameOf}
use Rattle.dnsview_rows.specs.declared.row.RowField.TheVariants as fields

-- The rows from p to q of a name that begins at `start`: one for each label, and one for the root label or the pointer that ends it. RFC 1035 section 4.1.4.
pub data NameRows (b : List ℕ) (of : NameOf) (start : ℕ) : ℕ → ℕ → List Row → Type 0 where
  root : {p : ℕ} → head_at b p ≡ Ok Root → NameRows b of start p (p + 1) (field_row p (p + 1) (fields.Root of start) ∷ [])
  pointer : {p t : ℕ} → head_at b p ≡ Ok (Pointer t) → NameRows b of start p (p + 2) (field_row p (p + 2) (fields.Pointer of start) ∷ [])
  label : {p n q : ℕ} {rows : List Row} → head_at b p ≡ Ok (Label n) → NameRows b of start (p + 1 + n) q rows
      → NameRows b of start p q (field_row p (p + 1 + n) (fields.Label of) ∷ rows)

-- The rows of labels from p to q, of a name that begins at `start`. Each label is complete, and the name isn't too long with it. RFC 1035 sections 2.3.4 and 4.1.4.
pub data LabelRows (b : List ℕ) (of : NameOf) (start : ℕ) : ℕ → ℕ → List Row → Type 0 where
  none : {p : ℕ} → LabelRows b of start p p []
  label : {p n q : ℕ} {rows : List Row} → head_at b p ≡ Ok (Label n) → (p - start) + n + 1 ≤ max_size → p + 1 + n ≤ length b → LabelRows b of start (p + 1 + n) q rows
      → LabelRows b of start p q (field_row p (p + 1 + n) (fields.Label of) ∷ rows)
