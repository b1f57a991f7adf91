-- Parts with the layout of a type are what is read from their uncompressed octets.
use Rattle.std.proofs.Common.{◌≡◌, ℕ, List, [], length, subst, arith}
use Rattle.std.proofs.lemmas.List.{take_all}
use Rattle.dns_wire.specs.Encoders.{Plain, nothing}
use Rattle.dns_wire.specs.Parts.{Part, AreParts, PartsAt, encode_parts}
use Rattle.dns_wire.specs.Targets.{Written, IsTarget, append, with_empty_table}
use Rattle.dns_wire.proofs.theory.CompressionTables.{nothing_is_kept}
use Rattle.dns_wire.proofs.theory.EncoderLaws.{encodes_parts, parts_at}
use Rattle.dns_data.specs.Layout.{DataAt, IsLaidOut}
use Rattle.dns_data.proofs.theory.EncodedParts.{encoded_parts_read}
use Rattle.fields_table.specs.DataOrders.{octets_of_parts}
use Rattle.fields_table.specs.EncodedData.{is_there}
use Rattle.fields_table.specs.Layouts.{layout_of}
use Rattle.fields_table.specs.MadeData.{MadePartsReadBack}
use Rattle.fields_table.specs.OwnedFields.{AreThere, parts_in}
use Rattle.fields_table.specs.Table.{kinds_of}
use Rattle.fields_table.proofs.theory.PartOctets.{plain_octets}

module _ (parts : List Part) (are : AreParts parts) where
  empty_target : IsTarget (with_empty_table [])
  empty_target = nothing_is_kept []

  abbrev written : Written
  written = append (encode_parts Plain parts) (with_empty_table [])

  fills : PartsAt (octets_of_parts parts) (length (octets_of_parts parts)) 0 parts
  fills =
      let law = encodes_parts Plain parts are in
      let has = law.encodes (with_empty_table []) empty_target in
      let at = parts_at parts written 0 _ are (law.keeps (with_empty_table []) empty_target) has in
      subst (λ (b : List ℕ). PartsAt b (length b) 0 parts) (plain_octets parts nothing 0) at

  made : (rtype : ℕ) → IsLaidOut (layout_of (kinds_of rtype)) parts → AreThere rtype (octets_of_parts parts) × (parts_in rtype (octets_of_parts parts) ≡ parts)
  made rtype laid =
      let octets = octets_of_parts parts in
      let layout = layout_of (kinds_of rtype) in
      let read = encoded_parts_read octets (length octets) 0 layout parts (omega arith) fills laid in
      let whole = subst (λ (b : List ℕ). DataAt b layout 0 (length octets) parts) (take_all (length octets) octets (omega arith)) read in
      is_there octets layout 0 (length octets) parts (omega arith) whole

-- Parts that are laid out are read back as the fields of the type.
pub made_parts_read_back : MadePartsReadBack
made_parts_read_back rtype parts laid are = made parts are rtype laid
