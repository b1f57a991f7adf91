-- Octets that are RDATA of a type.
use Rattle.std.proofs.Common.{◌≡◌, ◌↔◌, ◌≤◌, ℕ, List, length, refl, sym, ap, subst, arith}
use Rattle.std.proofs.lemmas.Bool.{false≢true}
use Rattle.std.specs.Prelude.{IfErr, IfOk, IsTrue, Result, Ok, Err}
use Rattle.std.specs.Result.{is_ok}
use Rattle.dns_octets.specs.declared.error.ParseError.{ParseError}
use Rattle.dns_name.specs.Names.{fault_of}
use Rattle.dns_wire.specs.Encoders.{Plain, nothing}
use Rattle.dns_wire.specs.Parts.{Part, parts_size}
use Rattle.dns_wire.proofs.theory.NameSizes.{parts_are_short}
use Rattle.fields_table.specs.Data.{parts_of}
use Rattle.fields_table.specs.DataOrders.{octets_of_parts}
use Rattle.fields_table.specs.EncodedData.{is_there}
use Rattle.fields_table.specs.Layouts.{layout_of, most}
use Rattle.fields_table.specs.OwnedFields.{AreThere, parts_in}
use Rattle.fields_table.specs.Table.{kinds_of}
use Rattle.fields_table.specs.UncompressedData.{IsUncompressedData, UncompressedDataFault}
use Rattle.fields_table.specs.declared.field_data.FieldData.{FieldData}
use Rattle.fields_table.proofs.theory.PartOctets.{plain_octets}
use Rattle.fields_table.proofs.theory.UncompressedOctets.{not_uncompressed}
use Rattle.fields_text.specs.Reading.{HasValue}

-- the octets begin with the fields of the type, which have these parts
pub record HasFields (rtype : ℕ) (octets : List ℕ) (parts : List Part) : Type 0 where
  pub there : AreThere rtype octets
  pub parts_are : parts_in rtype octets ≡ parts
  pub short : parts_size (parts_in rtype octets) ≤ most

-- Octets that are RDATA, uncompressed, are the fields of its type.
pub has_fields : (rtype : ℕ) (octets : List ℕ) (parts : List Part) → IsUncompressedData rtype octets parts → HasFields rtype octets parts
has_fields rtype octets parts is =
    let found = is_there octets (layout_of (kinds_of rtype)) 0 (length octets) parts (omega arith) is.fields.1 in
    record { there = found.0; parts_are = found.1; short = subst (λ (ps : List Part). parts_size ps ≤ most) (sym found.1) is.fields.0 }

-- Parts have no more octets than their size, which bounds RDATA.
pub short_octets : (parts : List Part) → length (octets_of_parts parts) ≤ parts_size parts
short_octets parts = subst (λ (xs : List ℕ). length xs ≤ parts_size parts) (plain_octets parts nothing 0) (parts_are_short Plain parts nothing 0)

-- RDATA has at most 65,535 octets.
pub few_octets : (rtype : ℕ) (octets : List ℕ) (parts : List Part) → IsUncompressedData rtype octets parts → length octets ≤ 65535
few_octets rtype octets parts is =
    let few : parts_size parts ≤ most = is.fields.0 in
    omega (arith, few, short_octets parts, ap length is.uncompressed)

-- Whether reading the fields of octets succeeds says whether they are RDATA.
pub are_tested : (rtype : ℕ) (octets : List ℕ) (r : Result FieldData ParseError) → IfOk r (λ fields. IsUncompressedData rtype octets (parts_of fields))
    → IfErr r (λ error. UncompressedDataFault rtype octets (fault_of error)) → IsTrue (is_ok r) ↔ HasValue (IsUncompressedData rtype octets)
are_tested rtype octets (Ok fields) ok err = (λ h. (parts_of fields, ok), λ has. refl)
are_tested rtype octets (Err error) ok err = (λ h. absurd (false≢true h), λ has. absurd (not_uncompressed rtype octets err has.0 has.1))
