-- Consecutive rows.
use Rattle.std.proofs.Common.{◌≡◌, ℕ, ◌≤◌, List, [], ◌∷◌, ◌++◌, length, Option, Some, None, ◌+◌, ◌∙◌, ap, subst, sym, refl, arith}
use Rattle.std.specs.Prelude.{true, false, nat_lt, if◌then◌else◌}
use Rattle.std.proofs.lemmas.Bool.Decides.{nat_tests}
use Rattle.std.proofs.lemmas.List.Elements.{All-append, All-cons, All-nil}
use Rattle.std.proofs.lemmas.List.Sums.{sum_by-append}
use Rattle.dnsview_rows.specs.Fields.{field_row, items_at, items_of, item_count, AreFields, IsField}
use Rattle.dnsview_rows.specs.Shown.{header_rows, fault_rows, unread_rows, ShowsMessage}
use Rattle.dnsview_rows.specs.declared.row.RowField.{RowField}
use Rattle.dnsview_rows.specs.Tiles.{Tiles}
use Rattle.dnsview_rows.specs.declared.row.RowFault.{RowFault}
use Rattle.dnsview_rows.specs.declared.row.RowKind.TheVariants.{Unread}
use Rattle.dnsview_rows.specs.declared.row.Row.{Row}

-- rows up to the start of a row, and then that row
pub one_more : (rows : List Row) (row : Row) (start : ℕ) → Tiles rows start row.start → row.start ≤ row.end → Tiles (rows ++ row ∷ []) start row.end
one_more [] row start h k = (sym h, subst (λ n. n ≤ row.end) (sym h) k, refl)
one_more (first ∷ rows) row start h k = (h.0, h.1, one_more rows row first.end h.2 k)

-- rows of fields up to an offset, and then the row of a field there
pub one_more_field : (rows : List Row) (from start end : ℕ) (field : RowField) → AreFields rows from start → IsField (field_row start end field) → start ≤ end
    → AreFields (rows ++ field_row start end field ∷ []) from end
one_more_field rows from start end field h k order = record {
  tiles = one_more rows (field_row start end field) from h.tiles order;
  fields = All-append IsField rows (field_row start end field ∷ []) h.fields (All-cons IsField (field_row start end field) [] k (All-nil IsField));
}

-- One more row counts one more item if it begins one.
pub item_count-one_more : (rows : List Row) (start end : ℕ) (field : RowField) → item_count (rows ++ field_row start end field ∷ []) ≡ item_count rows + items_at field
item_count-one_more rows start end field = omega (arith, sum_by-append (λ (row : Row). items_of row.kind) rows (field_row start end field ∷ []))

-- the same for a list that becomes these rows
pub marked_after : (rows later : List Row) (from start end : ℕ) (field : RowField) → later ≡ rows ++ field_row start end field ∷ []
    → AreFields rows from start → IsField (field_row start end field) → start ≤ end → AreFields later from end
marked_after rows later from start end field e h k order =
    let P : List Row → Type 0 = λ rows. AreFields rows from end in
    subst P (sym e) (one_more_field rows from start end field h k order)

-- Rows with one more count its items too.
pub counted_after : (rows later : List Row) (start end : ℕ) (field : RowField) → later ≡ rows ++ field_row start end field ∷ [] → item_count later ≡ item_count rows + items_at field
counted_after rows later start end field e = ap (λ rows. item_count rows) e ∙ item_count-one_more rows start end field

-- rows up to an offset, and then rows from there
pub joined : (rows others : List Row) (start offset end : ℕ) → Tiles rows start offset → Tiles others offset end → Tiles (rows ++ others) start end
joined [] others start offset end h k = subst (λ n. Tiles others n end) (sym h) k
joined (first ∷ rows) others start offset end h k = (h.0, h.1, joined rows others first.end offset end h.2 k)

-- The row of a fault covers no octets.
pub tiles_fault : (stop : Option RowFault) (offset : ℕ) → Tiles (fault_rows stop offset) offset offset
tiles_fault None offset = refl
tiles_fault (Some fault) offset = (refl, omega arith, refl)

-- the row of the remaining octets, if the rows before don't end past them
pub tiles_unread : (offset len : ℕ) → offset ≤ len → Tiles (unread_rows offset len) offset len
tiles_unread offset len within =
    elim (nat_lt offset len) as (λ b. nat_lt offset len ≡ b → Tiles (if b then record { start = offset; end = len; kind = Unread } ∷ [] else []) offset len) [
      | true ↦ λ e. (refl, within, refl)
      | false ↦ λ e. let past : offset ≡ len = grind (arith, nat_tests, e) in past
    ] refl

-- the rows of a header section, of the fields after it, of a fault and of the remaining octets
pub tiles_message : (others : List Row) (stop : Option RowFault) (offset len : ℕ) → Tiles others 12 offset → offset ≤ len
    → Tiles ((header_rows ++ others) ++ (fault_rows stop offset ++ unread_rows offset len)) 0 len
tiles_message others stop offset len h within =
    let head : Tiles header_rows 0 12 = (refl, omega arith, (refl, omega arith, (refl, omega arith, (refl, omega arith, (refl, omega arith, (refl, omega arith, refl)))))) in
    let rest : Tiles (fault_rows stop offset ++ unread_rows offset len) offset len = joined (fault_rows stop offset) (unread_rows offset len) offset offset len
    (tiles_fault stop offset) (tiles_unread offset len within) in
    joined (header_rows ++ others) (fault_rows stop offset ++ unread_rows offset len) 0 offset len (joined header_rows others 0 12 offset head h) rest

-- the rows of a message, from the lists that they are put together from
pub made_of : (rows front header others : List Row) (stop : Option RowFault) (at offset len : ℕ) → rows ≡ front ++ (fault_rows stop at ++ unread_rows at len)
    → front ≡ header ++ others → header ≡ header_rows → at ≡ offset → rows ≡ header_rows ++ others ++ (fault_rows stop offset ++ unread_rows offset len)
made_of rows front header others stop at offset len e f g h =
    e ∙ ap (λ front. front ++ (fault_rows stop at ++ unread_rows at len)) (f ∙ ap (λ header. header ++ others) g)
    ∙ ap (λ at. header_rows ++ others ++ (fault_rows stop at ++ unread_rows at len)) h

-- the rows of a message cover its octets
pub tiles_shown : (b : List ℕ) (rows : List Row) → ShowsMessage b rows → Tiles rows 0 (length b)
tiles_shown b rows s =
    let P : List Row → Type 0 = λ rows. Tiles rows 0 (length b) in
    subst P (sym s.made) (tiles_message s.others s.stop s.offset (length b) s.fields.tiles s.within)
