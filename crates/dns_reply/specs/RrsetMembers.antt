-- Which records of a reading are a set, and which have the same RDATA. RFC 2181 section 5.
use Rattle.std.specs.Prelude.{◌==◌, ◌&&◌, ℕ, Bool, true, List, filter, Option, option_and_then, Result, Ok, Err}
use Rattle.std.specs.Cmp.Lexicographic.{pointwise}
use Rattle.std.specs.List.{list_any}
use Rattle.std.specs.Option.{option_eq}
use Rattle.std.specs.Result.{result_ok}
use Rattle.dns_name.specs.Names.{Fault, Labels}
use Rattle.dns_name.specs.NameOrders.{names_equal}
use Rattle.dns_data.specs.UnknownData.{opaque_layout}
use Rattle.dns_item.specs.ParsedRecord.{EncodedRecord}
use Rattle.dns_item.specs.TypedRecords.{data_in}
use Rattle.dns_read.specs.OptSearches.{only_octets}
use Rattle.dns_reply.specs.Records.{Records, values}

-- whether an item is a record with this owner, class and type, or a fault
abbrev pub is_member : Labels → ℕ → ℕ → Result EncodedRecord Fault → Bool
is_member owner class rtype (Ok x) = names_equal x.entry.owner owner && (x.entry.class == class) && (x.entry.rtype == rtype)
is_member owner class rtype (Err f) = true

-- the records of a reading with this owner, class and type, in order, and the reading's fault
abbrev pub members : Labels → ℕ → ℕ → Records → Records
members owner class rtype items = filter (is_member owner class rtype) items

-- the octets of a record's RDATA, or `None` if they aren't all there
abbrev pub rdata_of : EncodedRecord → Option (List ℕ)
rdata_of x = option_and_then only_octets (result_ok (data_in x opaque_layout))

-- whether RDATA is the same octet for octet, or missing in both
abbrev pub same_rdata : Option (List ℕ) → Option (List ℕ) → Bool
same_rdata = option_eq (pointwise ◌==◌)

-- whether a record of a reading has the same RDATA
abbrev pub repeats : EncodedRecord → Records → Bool
repeats x items = list_any (λ (y : EncodedRecord). same_rdata (rdata_of x) (rdata_of y)) (values items)
