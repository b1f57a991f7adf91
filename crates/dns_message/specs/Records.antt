-- Records: their fields, how they are encoded, read and printed, and how they compare.
-- `RecordHeader` is a module, as its names are also those of records.
unfoldable pub use Rattle.dns_item.specs.Items.{encode_record}
pub use Rattle.dns_item.specs.Items.{RecordItem, IsRecord, record_fields, RecordEntry, ReadsRecord, SkipsRecord, RecordFaultAt, LacksRecord}
pub use Rattle.dns_item.specs.Items.LacksRecord.{fields, rdata}
pub use Rattle.dns_item.specs.Record.{owner_of, class_of, ttl_of, data_of, HasFields, record_item, item_of_fields, with_data}
pub use Rattle.dns_item.specs.RecordHeader
-- parsed records, and their RDATA by a layout
pub use Rattle.dns_item.specs.ParsedRecord.{EncodedRecord, encoded_record, parsed_entry, header_of, octets_of, data_parser, ParsesRecord, SkipsOverRecord}
pub use Rattle.dns_item.specs.ParsedData.{HasSpan, IsParsedData}
pub use Rattle.dns_item.specs.ParsedData.IsParsedData.{whole, fault, missing}
unfoldable pub use Rattle.dns_item.specs.TypedRecords.{data_in}
pub use Rattle.dns_item.specs.TypedRecords.{laid_out, parsed_as, typed_result, with_parts, DataIsParsed}
pub use Rattle.dns_item.specs.RecordReading.{item_of, up_to_rdata_end, IsThere, IsRecordOf, HasData, HasDataFault, ReturnsLaidOut, ReturnsTaken, GivesLaidOut, GivesTaken, GivesBack, GivesBackTaken}
-- TTLs and OPT records
pub use Rattle.dns_item.specs.Ttl.{FitsTtl, most_seconds, cap_seconds}
pub use Rattle.dns_item.specs.OptRecord.{OptItem, opt_item, opt_class, opt_ttl, opt_data, HasOptFields}
-- texts and comparisons
pub use Rattle.dns_item.specs.RecordPrinting.{record_text, record_fields_text, parse_error_text}
pub use Rattle.dns_item.specs.RecordOrders.{records_equal, record_order, canonical_record_order}
-- the statements of the theorems on records
pub use Rattle.dns_item.specs.Items.{RecordOrFault, HeaderOrFault, RecordEndOrFault, RecordSkipAgrees, RecordsGrow, RecordsReadBack}
