-- RDATA of a record type of one's own compares as its fields do.
use Rattle.std.proofs.Common.{◌≡◌, ℕ, Bool, true, List, ap, ◌∙◌}
use Rattle.std.specs.Cmp.Lexicographic.{slice_cmp}
use Rattle.dns_name.specs.Parsers.{seen, offset}
use Rattle.dns_wire.specs.Parts.{Part}
use Rattle.dns_data.specs.Layout.{DataAt}
use Rattle.fields_table.specs.EncodedData.{data_is_there}
use Rattle.fields_table.specs.FieldOrders.{field_order, parts_left}
use Rattle.fields_table.specs.FieldParts.{named_parts, fields_left}
use Rattle.fields_table.specs.LaidOut.{laid_out, encoded_parts}
use Rattle.fields_table.specs.Layouts.{layout_of}
use Rattle.fields_table.specs.OwnOrders.{own_canonical_order}
use Rattle.fields_table.specs.OwnTypes.{own_parts_of}
use Rattle.fields_table.specs.Table.{kinds_in}
use Rattle.fields_table.specs.declared.fields.Fields.{Fields}
use Rattle.fields_table.specs.declared.own.DataOf.{DataOf}
use Rattle.fields_table.specs.declared.own.RecordFields.{Ghosts}
use Rattle.fields_table.proofs.CanonicalOrders.{fields_compare}
use Rattle.fields_table.proofs.theory.NamedFields.{parts_of_named}

module _ {T : Type 0} {g : Ghosts T} where
  data_at : (d : DataOf T g) → (q : ℕ) × DataAt (seen d.parser) (layout_of (kinds_in g.defined)) (offset d.parser) q (own_parts_of d)
  data_at d = data_is_there _ _ _ d.encoded

  -- the fields of RDATA have its parts
  pub own_parts_left : (d : DataOf T g) (fields : Fields) → fields_left fields ≡ named_parts g.defined (own_parts_of d) → parts_left fields ≡ own_parts_of d
  own_parts_left d fields e = let h = data_at d in parts_of_named (seen d.parser) g.defined (offset d.parser) h.0 (own_parts_of d) h.1 fields e

  -- if fields have the parts of RDATA, two lists of fields compare as the parts of their RDATA do
  pub compared : (canonical : Bool) (x y : DataOf T g) (xs ys : Fields) → fields_left xs ≡ named_parts g.defined (own_parts_of x) → fields_left ys ≡ named_parts g.defined (own_parts_of y)
      → slice_cmp (field_order canonical) (parts_left xs) (parts_left ys) ≡ slice_cmp (field_order canonical) (own_parts_of x) (own_parts_of y)
  compared canonical x y xs ys e f =
      ap (λ (ps : List Part). slice_cmp (field_order canonical) ps (parts_left ys)) (own_parts_left x xs e)
      ∙ ap (slice_cmp (field_order canonical) (own_parts_of x)) (own_parts_left y ys f)

  -- comparing the parts of RDATA in canonical form is the canonical order of the RDATA
  pub compared_in_canonical_form : (x y : DataOf T g) → slice_cmp (field_order true) (own_parts_of x) (own_parts_of y) ≡ own_canonical_order x y
  compared_in_canonical_form x y =
      let h = data_at x in
      let k = data_at y in
      let kinds = kinds_in g.defined in
      fields_compare kinds (own_parts_of x) (own_parts_of y)
      (laid_out (seen x.parser) kinds (offset x.parser) h.0 (own_parts_of x) h.1)
      (laid_out (seen y.parser) kinds (offset y.parser) k.0 (own_parts_of y) k.1)
      (encoded_parts _ _ _ _ _ h.1) (encoded_parts _ _ _ _ _ k.1)
