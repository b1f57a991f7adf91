-- Record types as a table, RDATA as named fields, and records as lines, printed and read.
pub use Rattle.fields_table.specs.Table.{Definition, definitions, kinds_in, kinds_of, type_of}
unfoldable pub use Rattle.fields_table.specs.Table.{definitions_of}
pub use Rattle.fields_table.specs.Ranges.{later_types, table_types, types_after}
unfoldable pub use Rattle.fields_table.specs.Ranges.{range_types}
pub use Rattle.fields_table.specs.Rows.{types_left as record_types_left}
pub use Rattle.fields_table.specs.RecordTypes.{TypeDefinition}
pub use Rattle.fields_table.specs.NamesOfTypes.{may_be_compressed, may_have_pointer, is_lowercased, types_with}
unfoldable pub use Rattle.fields_table.specs.RecordTypes.{record_types}
pub use Rattle.fields_table.specs.FieldData.{type_layout}
pub use Rattle.fields_table.specs.Layouts.{rdata_layout}
unfoldable pub use Rattle.fields_table.specs.Layouts.{layout_of}
pub use Rattle.fields_table.specs.OwnTypes.{own_parts_of}
pub use Rattle.fields_table.specs.OwnOrders.{own_equal, own_order, own_hash_input, own_canonical_octets, own_canonical_order}
pub use Rattle.fields_table.specs.Data.{rtype_of, parts_of}
pub use Rattle.fields_table.specs.DataOrders.{part_equal, part_order, data_equal, data_order, data_hash_input, canonical_octets, data_canonical_order}
pub use Rattle.fields_table.specs.OwnedData.{owned_rtype_of, owned_parts_of, keeps_data}
pub use Rattle.fields_table.specs.FieldParts.{NamedPart, named_parts, named_part, fields_left}
pub use Rattle.fields_table.specs.EncodedFields.{part_of}
pub use Rattle.fields_table.specs.Values.{FieldValue, part_value, value_shown}
pub use Rattle.fields_table.specs.Shapes.{shape_of}
pub use Rattle.fields_table.specs.Accepts.{accepts}
pub use Rattle.fields_records.specs.DataTexts.{data_fields, data_text, data_line}
pub use Rattle.fields_records.specs.FieldTexts.{field_text, fields_octets, fields_text, value_text}
pub use Rattle.fields_records.specs.RecordLines.{record_text, record_line}
pub use Rattle.fields_plain.specs.ZoneNames.{zone_name_text}
pub use Rattle.fields_plain.specs.TypeNames.{class_word, type_word}
pub use Rattle.fields_text.specs.LineWords.{AreWordsOf, SplitsWords}
pub use Rattle.fields_records.specs.DataWords.{IsDataText, MayBeData, ReadsData}
pub use Rattle.fields_records.specs.RecordWords.{IsRecordText, MayBeRecord, ReadsRecord}
-- lists in fields, and the iterators over them
pub use Rattle.fields_lists.specs.Strings.{strings_of}
pub use Rattle.fields_parameters.specs.ParameterItems.{ParameterItem, parameters_of}
pub use Rattle.fields_lists.specs.PrefixItems.{PrefixItem, prefixes_of}
pub use Rattle.fields_lists.specs.TypeMaps.{map_types}
pub use Rattle.fields_lists.specs.ItemsLeft.{strings_left, prefix_item, prefixes_left}
pub use Rattle.fields_parameters.specs.ItemsLeft.{parameter_item, parameters_left}
pub use Rattle.fields_lists.specs.TypeItems.{types_left}
-- RDATA from native values
unfoldable pub use Rattle.fields_text.specs.Base32Words.{last_octets}
pub use Rattle.fields_values.specs.NewValues.{IsTaken, IsValueOf, takes}
pub use Rattle.fields_values.specs.ValueData.{AreValuesOf, HasWrongKind, HoldsFirstAt, IsErrorOf, IsOutOfRange, IsTakenBy, MakesData, MakesParts}
pub use Rattle.fields_values.specs.Named.{IsSplit, MakesNamed, MakesText}
pub use Rattle.fields_values.specs.ReadBack.{ReadsBack}
-- values that an RFC rules out, and lines as people write them
pub use Rattle.fields_checks.specs.Checks.{ChecksValues, reason_of, values_of}
pub use Rattle.fields_lines.specs.Durations.{duration}
pub use Rattle.fields_lines.specs.Heads.{begins_with_owner}
pub use Rattle.fields_lines.specs.Lines.{HasProblem, HasWords, IsLine, IsNoRecord, IsRecordOf, ReadsLine}
