-- What a data type yields for a reading of records. RFC 1035 sections 3.2.4 and 4.1.3.
use Rattle.std.specs.Prelude.{ℕ, Bool, true, ◌==◌, if◌then◌else◌, List, filter, Option, Some, Result, Ok, Err}
use Rattle.std.specs.List.{filter_map}
use Rattle.dns_name.specs.Names.{Fault}
use Rattle.dns_data.specs.Layout.{Layout}
use Rattle.dns_item.specs.Items.{RecordItem}
use Rattle.dns_item.specs.ParsedRecord.{EncodedRecord}
use Rattle.dns_item.specs.TypedRecords.{parsed_as}

-- what a data type yields for an item of a reading: as `parsed_as` says for a record, and the fault itself for a fault
abbrev pub parsed_item : (ℕ → Option Layout) → Result EncodedRecord Fault → Option (Result RecordItem Fault)
parsed_item layouts (Ok x) = parsed_as layouts x
parsed_item layouts (Err f) = Some (Err f)

-- what a data type yields for a reading: each record of a type that it accepts with its parts, or the fault of its RDATA; and the reading's own fault, which is the last item
abbrev pub limited : (ℕ → Option Layout) → List (Result EncodedRecord Fault) → List (Result RecordItem Fault)
limited layouts = filter_map (parsed_item layouts)

-- whether an item is a record of class IN, which is 1, or a fault
abbrev pub is_in_class_in : Result EncodedRecord Fault → Bool
is_in_class_in (Ok x) = x.entry.class == 1
is_in_class_in (Err f) = true

-- a reading without the records of classes other than IN
abbrev pub in_class_in : List (Result EncodedRecord Fault) → List (Result EncodedRecord Fault)
in_class_in = filter is_in_class_in

-- `limited` of all items, or of those of class IN if `in_only`
abbrev pub limited_by : (ℕ → Option Layout) → Bool → List (Result EncodedRecord Fault) → List (Result RecordItem Fault)
limited_by layouts in_only items = limited layouts (if in_only then in_class_in items else items)
