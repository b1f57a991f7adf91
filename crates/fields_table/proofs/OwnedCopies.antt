-- A copy of RDATA as uncompressed octets.
use Rattle.std.proofs.Common.{◌≡◌, ◌≤◌, ◌∙◌, ℕ, List, [], ap, sym, subst}
use Rattle.dns_wire.specs.Encoders.{Plain, nothing}
use Rattle.dns_wire.specs.Parts.{Part, parts_size, encode_parts}
use Rattle.dns_wire.specs.Targets.{Written, append, with_empty_table}
use Rattle.dns_data.specs.Layout.{IsLaidOut}
use Rattle.fields_table.specs.Data.{rtype_of, parts_of, any_laid_out}
use Rattle.fields_table.specs.DataOrders.{octets_of_parts}
use Rattle.fields_table.specs.Layouts.{layout_of, most}
use Rattle.fields_table.specs.OwnedFields.{AreThere, parts_in}
use Rattle.fields_table.specs.Table.{kinds_of}
use Rattle.fields_table.specs.declared.field_data.FieldData.{FieldData}
use Rattle.fields_table.proofs.MadeData.{made_parts_read_back}
use Rattle.fields_table.proofs.theory.UncompressedOctets.{are_parts}
use Rattle.fields_table.proofs.theory.PartOctets.{plain_octets}

-- the octets have the parts of the RDATA
pub record Copied (d : FieldData) (rtype : ℕ) (octets : List ℕ) : Type 0 where
  pub there : AreThere rtype octets
  pub parts : parts_in rtype octets ≡ parts_of d
  pub short : parts_size (parts_in rtype octets) ≤ most

module _ (d : FieldData) (octets : List ℕ) (e : with_empty_table octets ≡ append (encode_parts Plain (parts_of d)) (with_empty_table [])) where
  octets_are : octets ≡ octets_of_parts (parts_of d)
  octets_are = ap (λ (w : Written). w.octets) e ∙ plain_octets (parts_of d) nothing 0

  -- if the type is that of the RDATA, its uncompressed octets are read as the parts of the RDATA
  pub copied : (rtype : ℕ) → rtype ≡ rtype_of d → Copied d rtype octets
  copied rtype same =
      let laid = subst (λ r. IsLaidOut (layout_of (kinds_of r)) (parts_of d)) (sym same) (any_laid_out d).1 in
      let found =
      subst (λ (xs : List ℕ). AreThere rtype xs × (parts_in rtype xs ≡ parts_of d)) (sym octets_are)
      (made_parts_read_back rtype (parts_of d) laid (are_parts d)) in
      record { there = found.0; parts = found.1; short = subst (λ (ps : List Part). parts_size ps ≤ most) (sym found.1) d.short }
