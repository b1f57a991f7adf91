-- The lines of records that were read.
use Rattle.std.proofs.Common.{◌≡◌, ◌∙◌, ℕ, List, [], ◌∷◌, ap, true, false, append_assoc, drop, codes, None}
use Rattle.std.specs.Fmt.{◌++?◌, decimal}
use Rattle.std.specs.Prelude.{if◌then◌else◌, Some}
use Rattle.dns_data.specs.Printing.{opaque_text}
use Rattle.dns_name.specs.ParsedName.{labels}
use Rattle.dns_name.specs.declared.parsed_name.ParsedName.{ParsedName}
use Rattle.dns_item.specs.ParsedRecord.{EncodedRecord}
use Rattle.dns_item.specs.Record.{owner_of, class_of, ttl_of, data_of}
use Rattle.dns_item.specs.RecordReading.{up_to_rdata_end, IsRecordOf}
use Rattle.dns_item.specs.declared.record.Record.{Record}
use Rattle.fields_table.specs.Data.{rtype_of, parts_of}
use Rattle.fields_table.specs.FieldData.{type_layout}
use Rattle.fields_table.specs.FieldParts.{named_parts}
use Rattle.fields_table.specs.Table.{definitions_of}
use Rattle.fields_table.specs.declared.field_data.FieldData.{FieldData}
use Rattle.fields_records.specs.DataTexts.{data_text}
use Rattle.fields_records.specs.RecordLines.{record_text}
use Rattle.fields_plain.specs.TypeNames.{class_word, type_word}
use Rattle.fields_plain.specs.ZoneNames.{zone_name_text}
use Rattle.dns_lines.specs.Show.{data_parts, line}
use Rattle.fields_records.specs.RdataTexts.{rdata_text}
use Rattle.dns_lines.specs.ZoneLines.{is_of_message, line_with, record_lines}

module _ (x : EncodedRecord) where
  -- a record of one message has no line
  pub of_message_has_none : is_of_message x ≡ true → record_lines x ≡ []
  of_message_has_none is = ap (λ b. if b then [] else line_with x (data_parts x (type_layout x.entry.rtype))) is

  -- any other has one
  pub others_have_one : is_of_message x ≡ false → record_lines x ≡ line_with x (data_parts x (type_layout x.entry.rtype))
  others_have_one is = ap (λ b. if b then [] else line_with x (data_parts x (type_layout x.entry.rtype))) is

  -- the text of a record, by the fields that were read
  pub text_of_fields : (r : Record ParsedName FieldData) → IsRecordOf rtype_of parts_of x.octets x.entry (parts_of (data_of r)) r
      → record_text (zone_name_text (labels (owner_of r))) (ttl_of r) (class_of r) (rtype_of (data_of r)) (data_text (named_parts (definitions_of (rtype_of (data_of r))) (parts_of (data_of r))))
      ≡ record_text (zone_name_text x.entry.owner) x.entry.ttl x.entry.class x.entry.rtype (rdata_text x (Some (parts_of (data_of r))))
  text_of_fields r is = λ i. record_text (zone_name_text (is i).owner) (is i).ttl (is i).class (is i).rtype (data_text (named_parts (definitions_of (is i).rtype) (parts_of (data_of r))))

  -- what is printed of a record with its RDATA as octets
  pub opaque_printed : (owner : List ℕ) (ttl class rtype : ℕ) (octets : List ℕ) → owner ≡ zone_name_text x.entry.owner → ttl ≡ x.entry.ttl → class ≡ x.entry.class → rtype ≡ x.entry.rtype
      → octets ≡ drop x.entry.rdata_start (up_to_rdata_end x.octets x.entry)
      → Some owner ++? (Some (codes " ") ++?
      (Some (decimal ttl) ++?
      (Some (codes " ") ++? (Some (class_word class) ++? (Some (codes " ") ++? (Some (type_word rtype) ++? (Some (codes " ") ++? (Some (opaque_text octets) ++? Some (10 ∷ [])))))))))
      ≡ Some (line_with x None)
  opaque_printed owner ttl class rtype octets o t c y d =
      ap Some (simp append_assoc) ∙ λ i. Some (line (record_text (o i) (t i) (c i) (y i) (opaque_text (d i))))
