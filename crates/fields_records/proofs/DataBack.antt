-- What is printed of RDATA reads back.
use Rattle.std.proofs.Common.{◌∙◌, ℕ, List, sym, ap, subst, arith, inl, inr}
use Rattle.hex.specs.Hex.{IsBytes}
use Rattle.fields_table.specs.Data.{any_laid_out, parts_of, rtype_of}
use Rattle.fields_table.specs.DataOrders.{octets_of_parts}
use Rattle.fields_table.specs.Layouts.{layout_of}
use Rattle.fields_table.specs.Table.{definitions_of, kinds_of}
use Rattle.fields_table.specs.declared.field_data.FieldData.{FieldData}
use Rattle.fields_records.specs.DataTexts.{data_fields, data_line}
use Rattle.fields_records.specs.TextLaws.{FieldsAreAll}
use Rattle.fields_records.specs.FieldLaws.{AreWordsOfData, DataSplits}
use Rattle.fields_text.specs.LineWords.{AreWordsOf, texts}
use Rattle.fields_records.specs.ListLaws.{opaque_words}
use Rattle.fields_text.proofs.theory.LineLemmas.{one_list}
use Rattle.fields_table.proofs.theory.UncompressedOctets.{are_parts, uncompressed_back}
use Rattle.fields_records.specs.DataWords.{AreDataWords}
use Rattle.fields_records.specs.FieldWords.{Words}
use Rattle.fields_records.specs.Laws.{DataReadsBack, HasOctets}
use Rattle.fields_records.proofs.FieldsBack.{fields_back, fields_unmarked}
use Rattle.fields_records.proofs.FirstFields.{AreLayoutParts, data_ends}
use Rattle.fields_records.proofs.PrintedLaws.{PrintedLaws}
use Rattle.fields_records.proofs.OpaqueBack.{opaque_back}
use Rattle.fields_records.proofs.RdataLemmas.{short_octets}

-- the parts of RDATA
data_parts : (fields : FieldData) → HasOctets fields → AreLayoutParts (layout_of (kinds_of (rtype_of fields))) (parts_of fields)
data_parts fields bytes =
    let laid = any_laid_out fields in
    let few = laid.0 in
    (laid.1, are_parts fields, bytes, omega (arith, few, short_octets (parts_of fields)))

-- the words of its line
pub line_words : FieldsAreAll → DataSplits → (fields : FieldData) → HasOctets fields → (words : List (List ℕ)) × AreWordsOfData (data_fields fields) words × AreWordsOf (data_line fields) words
line_words all splits fields bytes = splits fields (subst IsBytes (sym (all fields)) bytes)

module _ (laws : PrintedLaws) where
  -- they represent its octets
  data_words : FieldsAreAll → (fields : FieldData) (words : Words) → HasOctets fields → AreWordsOfData (data_fields fields) (texts words)
      → AreDataWords (rtype_of fields) words (octets_of_parts (parts_of fields))
  data_words all fields words bytes (inl printed) =
      let are = data_parts fields bytes in
      let ends = data_ends (rtype_of fields) in
      let ds = definitions_of (rtype_of fields) in
      inr (fields_unmarked laws ds (parts_of fields) words ends are printed, fields_back laws ds (parts_of fields) words ends are printed)
  data_words all fields words bytes (inr printed) =
      let are = data_parts fields bytes in
      inl (opaque_back (octets_of_parts (parts_of fields)) words bytes are.3 (printed.1 ∙ ap opaque_words (all fields)))

  pub data_back : FieldsAreAll → DataSplits → DataReadsBack
  data_back all splits fields words bytes printed =
      let line = line_words all splits fields bytes in
      let same = one_list (data_line fields) line.0 (texts words) line.2 printed in
      record {
        octets = octets_of_parts (parts_of fields);
        are = data_words all fields words bytes (subst (AreWordsOfData (data_fields fields)) same line.1);
        rdata = uncompressed_back fields;
      }
