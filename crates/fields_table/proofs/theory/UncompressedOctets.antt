-- Octets that are RDATA uncompressed, and octets that aren't.
use Rattle.std.proofs.Common.{◌≡◌, ◌∙◌, ℕ, List, [], length, sym, ap, subst, refl, arith}
use Rattle.std.proofs.lemmas.List.{take_all}
use Rattle.dns_name.specs.Names.{Fault}
use Rattle.dns_wire.specs.Encoders.{Plain, nothing}
use Rattle.dns_wire.specs.Parts.{AreParts, Part, PartsAt}
use Rattle.dns_wire.specs.Targets.{with_empty_table}
use Rattle.dns_wire.proofs.theory.TargetTheorems.{nothing_is_target, parts_read_back}
use Rattle.dns_data.specs.Layout.{DataAt, IsLaidOut, Layout}
use Rattle.dns_data.proofs.theory.DataReading.{not_both, one_rdata}
use Rattle.dns_data.proofs.theory.EncodedParts.{encoded_parts_read}
use Rattle.fields_table.specs.Data.{any_laid_out, parts_of, rtype_of}
use Rattle.fields_table.specs.DataOrders.{octets_of_parts}
use Rattle.fields_table.specs.EncodedData.{data_is_there}
use Rattle.fields_table.specs.FieldData.{type_layout}
use Rattle.fields_table.specs.LaidOut.{encoded_parts}
use Rattle.fields_table.specs.UncompressedData.{IsUncompressedData, UncompressedDataFault, first, left_over, compressed}
use Rattle.fields_table.specs.declared.field_data.FieldData.{FieldData}
use Rattle.fields_table.proofs.theory.PartOctets.{plain_octets}

module _ (rtype : ℕ) (octets : List ℕ) where
  -- octets with a fault aren't RDATA uncompressed
  pub not_uncompressed : {f : Fault} → UncompressedDataFault rtype octets f → (parts : List Part) → IsUncompressedData rtype octets parts → ⊥
  not_uncompressed (first {f = f} fault) parts is = not_both octets (type_layout rtype) 0 (length octets) parts f (omega arith) is.fields fault
  not_uncompressed (left_over q others at more) parts is =
      let one = one_rdata octets (type_layout rtype) 0 (length octets) q parts others is.fields at in
      omega (arith, one.0)
  not_uncompressed (compressed others at other) parts is =
      let one = one_rdata octets (type_layout rtype) 0 (length octets) (length octets) parts others is.fields at in
      other (ap octets_of_parts (sym one.1) ∙ is.uncompressed)

  -- octets are RDATA uncompressed in one way
  pub one_uncompressed : (xs ys : List Part) → IsUncompressedData rtype octets xs → IsUncompressedData rtype octets ys → xs ≡ ys
  one_uncompressed xs ys h k = (one_rdata octets (type_layout rtype) 0 (length octets) (length octets) xs ys h.fields k.fields).1

-- the names among the parts of a view are names
pub are_parts : (fields : FieldData) → AreParts (parts_of fields)
are_parts fields = let there = data_is_there _ _ _ fields.encoded in encoded_parts _ _ _ _ _ there.1

-- parts fill their octets
parts_fill : (parts : List Part) → AreParts parts → PartsAt (octets_of_parts parts) (length (octets_of_parts parts)) 0 parts
parts_fill parts are =
    subst (λ (octets : List ℕ). PartsAt octets (length octets) 0 parts) (plain_octets parts nothing 0)
    (parts_read_back Plain (with_empty_table []) parts are (nothing_is_target [])).0

-- they are read by each layout that they have
pub parts_read : (layout : Layout) (parts : List Part) → AreParts parts → IsLaidOut layout parts → DataAt (octets_of_parts parts) layout 0 (length (octets_of_parts parts)) parts
parts_read layout parts are laid =
    let octets = octets_of_parts parts in
    let read = encoded_parts_read octets (length octets) 0 layout parts (omega arith) (parts_fill parts are) laid in
    subst (λ (seen : List ℕ). DataAt seen layout 0 (length octets) parts) (take_all (length octets) octets (omega arith)) read

-- the octets of fields are RDATA of their type uncompressed, with these parts
pub uncompressed_back : (fields : FieldData) → IsUncompressedData (rtype_of fields) (octets_of_parts (parts_of fields)) (parts_of fields)
uncompressed_back fields = record { fields = parts_read (type_layout (rtype_of fields)) (parts_of fields) (are_parts fields) (any_laid_out fields); uncompressed = refl }
