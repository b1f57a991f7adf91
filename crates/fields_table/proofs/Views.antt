-- RDATA as a view.
use Rattle.std.proofs.Common.{◌≡◌, ℕ, true, false, List, [], ◌∷◌, ap, sym, refl, subst}
use Rattle.dns_name.specs.Parsers.{seen, offset}
use Rattle.dns_wire.specs.Parts.{Part, Octets, CompressibleName, UncompressedName}
use Rattle.dns_data.specs.Layout.{DataAt}
use Rattle.dns_data.specs.RecordData.{canonical}
use Rattle.fields_table.specs.declared.kind.Kind.{Kind}
use Rattle.fields_table.specs.declared.field_data.FieldData.{FieldData}
use Rattle.fields_table.specs.Data.{parts_of}
use Rattle.fields_table.specs.EncodedData.{data_is_there}
use Rattle.fields_table.specs.Forms.{form, formed}
use Rattle.fields_table.specs.Layouts.{layout_of}
use Rattle.fields_table.specs.Table.{Field, kinds, kinds_of}

-- parts that aren't changed
pub as_they_are : (ps : List Part) → formed false ps ≡ ps
as_they_are [] = refl
as_they_are (Octets xs ∷ ps) = ap (λ (l : List Part). Octets xs ∷ l) (as_they_are ps)
as_they_are (CompressibleName name ∷ ps) = ap (λ (l : List Part). CompressibleName name ∷ l) (as_they_are ps)
as_they_are (UncompressedName lowers name ∷ ps) = ap (λ (l : List Part). UncompressedName lowers name ∷ l) (as_they_are ps)

-- parts in canonical form
pub in_canonical_form : (ps : List Part) → formed true ps ≡ canonical ps
in_canonical_form [] = refl
in_canonical_form (Octets xs ∷ ps) = ap (λ (l : List Part). form true (Octets xs) ∷ l) (in_canonical_form ps)
in_canonical_form (CompressibleName name ∷ ps) = ap (λ (l : List Part). form true (CompressibleName name) ∷ l) (in_canonical_form ps)
in_canonical_form (UncompressedName lowers name ∷ ps) = ap (λ (l : List Part). form true (UncompressedName lowers name) ∷ l) (in_canonical_form ps)

-- the fields of a view are encoded at its offset
pub value_at : (d : FieldData) (fields : List Field) → kinds fields ≡ kinds_of d.rtype → (q : ℕ) × DataAt (seen d.parser) (layout_of (kinds fields)) (offset d.parser) q (parts_of d)
value_at d fields e =
    let h = data_is_there (seen d.parser) (layout_of (kinds_of d.rtype)) (offset d.parser) d.encoded in
    (h.0, subst (λ (ks : List Kind). DataAt (seen d.parser) (layout_of ks) (offset d.parser) h.0 (parts_of d)) (sym e) h.1)
