-- The text of RDATA, by what is read of it.
use Rattle.std.proofs.Common.{◌≡◌, ◌∙◌, ℕ, List, ap, sym}
use Rattle.std.specs.Prelude.{Ok, Err}
use Rattle.std.specs.Result.{result_ok}
use Rattle.dns_name.specs.Names.{fault_of}
use Rattle.dns_name.specs.declared.parsed_name.ParsedName.{ParsedName}
use Rattle.dns_octets.specs.declared.error.ParseError.{ParseError}
use Rattle.dns_data.specs.Printing.{opaque_text}
use Rattle.fields_table.specs.Data.{rtype_of, parts_of}
use Rattle.fields_table.specs.FieldData.{type_layout}
use Rattle.fields_table.specs.FieldParts.{named_parts}
use Rattle.fields_table.specs.Table.{definitions_of}
use Rattle.fields_table.specs.declared.field_data.FieldData.{FieldData}
use Rattle.fields_records.specs.DataTexts.{data_line, data_text as fields_line}
use Rattle.dns_item.specs.ParsedData.{HasSpan}
use Rattle.dns_item.specs.ParsedData.IsParsedData.{whole, fault}
use Rattle.dns_item.specs.ParsedRecord.{EncodedRecord}
use Rattle.dns_item.specs.Record.{data_of}
use Rattle.dns_item.specs.RecordReading.{GivesLaidOut}
use Rattle.dns_item.specs.declared.record.Record.{Record}
use Rattle.dns_item.proofs.theory.TypedLemmas.{data_is_parsed}
use Rattle.fields_records.specs.RdataTexts.{rdata_text}
use Rattle.dnsm_read.specs.DataTexts.{data_octets, data_text}

module _ (x : EncodedRecord) (span : HasSpan x) where
  -- the fields of well-formed RDATA
  pub by_fields : (r : Record ParsedName FieldData) → GivesLaidOut rtype_of parts_of x.octets x.entry (type_layout x.entry.rtype) (Ok r) → data_line (data_of r) ≡ data_text x.octets x.entry
  by_fields r given =
      let rtype : rtype_of (data_of r) ≡ x.entry.rtype = ap (λ item. item.rtype) given.0 in
      let parts = ap result_ok (data_is_parsed.only x (type_layout x.entry.rtype) (Ok (parts_of (data_of r))) (whole span given.1)) in
      ap (λ (n : ℕ). fields_line (named_parts (definitions_of n) (parts_of (data_of r)))) rtype ∙ ap (rdata_text x) (sym parts)

  -- the octets of malformed RDATA
  pub malformed : (e : ParseError) (octets : List ℕ) → GivesLaidOut rtype_of parts_of x.octets x.entry (type_layout x.entry.rtype) (Err e)
      → octets ≡ data_octets x.octets x.entry → opaque_text octets ≡ data_text x.octets x.entry
  malformed e octets given are =
      let missing = ap result_ok (data_is_parsed.only x (type_layout x.entry.rtype) (Err (fault_of e)) (fault span given)) in
      ap opaque_text are ∙ ap (rdata_text x) (sym missing)
