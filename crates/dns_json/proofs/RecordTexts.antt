-- What is known of the RDATA of a record that was read, and its members.
use Rattle.std.proofs.Common.{◌≡◌, ℕ, List, [], true, false, Option, Some, None, ap, refl, is_some}
use Rattle.std.specs.Prelude.{unwrap_or, option_and_then}
use Rattle.dns_wire.specs.Parts.{Part}
use Rattle.dns_item.specs.ParsedRecord.{EncodedRecord}
use Rattle.dns_item.specs.RecordReading.{HasData, HasDataFault}
use Rattle.dns_name.specs.Names.{Fault}
use Rattle.fields_table.specs.FieldData.{type_layout}
use Rattle.json_print.specs.Texts.{members_text}
use Rattle.dns_lines.specs.Show.{IsRead}
use Rattle.dns_lines.proofs.theory.ShownRecords.{parts_there, parts_missing}
use Rattle.dns_json.specs.Records.{presentation, presentation_of, text_members}

module _ (x : EncodedRecord) (read : IsRead x) where
  -- Well-formed RDATA has the presentation format of its parts.
  pub presented : (parts : List Part) → HasData x.octets x.entry (type_layout x.entry.rtype) parts → presentation x ≡ presentation_of x.entry.rtype parts
  presented parts has = ap (option_and_then (presentation_of x.entry.rtype)) (parts_there x read (type_layout x.entry.rtype) parts has)

  -- Malformed RDATA has none.
  pub not_presented : (f : Fault) → HasDataFault x.octets x.entry (type_layout x.entry.rtype) f → presentation x ≡ None
  not_presented f fault = ap (option_and_then (presentation_of x.entry.rtype)) (parts_missing x read (type_layout x.entry.rtype) f fault)

-- A text that there is, is that of the fields in place of their octets.
pub text_there : (text : Option (List ℕ)) (other : List ℕ) → is_some text ≡ true → text ≡ Some (unwrap_or text other)
text_there (Some text) other is = refl
text_there None other is = cc

-- No text, no member.
pub no_text : (rtype : ℕ) (text : Option (List ℕ)) → is_some text ≡ false → members_text (text_members rtype text) ≡ []
no_text rtype (Some text) is = cc
no_text rtype None is = refl
