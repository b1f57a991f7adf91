-- Consecutive fields, of which one is incomplete.
use Rattle.std.proofs.Common.{◌≡◌, ℕ, ◌+◌, ◌≤◌, List, [], ◌∷◌, ◌++◌, length, ◌∙◌, ap, subst, sym, refl, arith, append_assoc, append-nil, length-take}
use Rattle.dnsview_rows.specs.Fields.{field_row, CutRows}
use Rattle.dnsview_rows.specs.Walks.{at, octets, Adds, CutsFields, LacksField}
use Rattle.dnsview_rows.specs.declared.row.RowFault.{RowFault}
use Rattle.dnsview_rows.specs.declared.row.RowField.{RowField}
use Rattle.dnsview_rows.specs.declared.row.Row.{Row}
use Rattle.dnsview_rows.specs.declared.walk.Walk.{Walk}

-- the offset of a walk is at most the end of the octets that it sees
pub walk_within : (w : Walk) → at w ≤ length (octets w)
walk_within w = omega (arith, length-take w.parser.end w.parser.octets.now, w.parser.before_end, w.parser.within)

-- the first field is incomplete
pub cut_here : (p n e : ℕ) (field : RowField) (after : List Row) (old new : Walk) (fault : RowFault) → LacksField field (octets old) (at old + n) fault → new ≡ old → at old ≡ p → e ≡ p + n
    → CutsFields (field_row p e field ∷ after) old new fault
cut_here p n e field after old new fault h same offset end =
    let P : ℕ → Type 0 = λ q. CutRows (octets old) (field_row p e field ∷ after) q fault [] in
    let within : p ≤ length (octets old) = omega (arith, walk_within old, offset) in
    let cut : P p = record { field = field; end = e; after = after; made = refl; within = within; short = omega (arith, h.1, offset, end); reported = h.0 } in
    record {
      rows = [];
      adds = ap (λ (w : Walk). w.rows.items) same ∙ sym (append-nil old.rows.items);
      cut = subst P (sym (ap (λ (w : Walk). at w) same ∙ offset)) cut;
    }

-- a field after others is incomplete
cut_rows_after : (b : List ℕ) (front after rows : List Row) (offset : ℕ) (fault : RowFault) → CutRows b after offset fault rows → CutRows b (front ++ after) offset fault (front ++ rows)
cut_rows_after b front after rows offset fault h = record {
  field = h.field;
  end = h.end;
  after = h.after;
  made = ap (λ others. front ++ others) h.made ∙ sym (append_assoc front rows (field_row offset h.end h.field ∷ h.after));
  within = h.within;
  short = h.short;
  reported = h.reported;
}

-- Rows before fields that are cut off come first.
pub cut_after : (front after : List Row) (q : ℕ) (old mid new : Walk) (fault : RowFault) → Adds front q old mid → CutsFields after mid new fault → CutsFields (front ++ after) old new fault
cut_after front after q old mid new fault h k =
    let cut = cut_rows_after (octets mid) front after k.rows (at new) fault k.cut in
    record {
      rows = front ++ k.rows;
      adds = k.adds ∙ ap (λ rows. rows ++ k.rows) h.rows ∙ append_assoc old.rows.items front k.rows;
      cut = subst (λ b. CutRows b (front ++ after) (at new) fault (front ++ k.rows)) h.seen cut;
    }

-- fields after the incomplete one make no difference
pub cut_before : (whole others : List Row) (old new : Walk) (fault : RowFault) → CutsFields whole old new fault → CutsFields (whole ++ others) old new fault
cut_before whole others old new fault h = record {
  rows = h.rows;
  adds = h.adds;
  cut = record {
    field = h.cut.field;
    end = h.cut.end;
    after = h.cut.after ++ others;
    made = ap (λ rows. rows ++ others) h.cut.made ∙ append_assoc h.rows (field_row (at new) h.cut.end h.cut.field ∷ h.cut.after) others;
    within = h.cut.within;
    short = h.cut.short;
    reported = h.cut.reported;
  };
}
