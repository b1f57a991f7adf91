-- Equality of records whose RDATA isn't parsed. RFC 1035 section 4.1.3.
use Rattle.std.specs.Prelude.{ℕ, ◌+◌, Bool, List, length, slice_range, Option, None, Some, nat_le, ◌==◌, if◌then◌else◌}
use Rattle.std.specs.Cmp.Lexicographic.{pointwise}
use Rattle.std.specs.Option.{option_eq}
use Rattle.std.specs.Ordering.{on, eq_of_both}
use Rattle.dns_name.specs.NameOrders.{names_equal}
use Rattle.dns_name.specs.ParsedName.{labels}
use Rattle.dns_name.specs.Parsers.{offset}
use Rattle.dns_name.specs.declared.parsed_name.ParsedName.{ParsedName}
use Rattle.dns_item.specs.RecordHeader.{owner_of, rtype_of, class_of, ttl_of, rdlen_of}
use Rattle.dns_item.specs.ParsedRecord.{header_of, data_parser, octets_of}
use Rattle.dns_item.specs.declared.parsed_record.ParsedRecord.{ParsedRecord}
use Rattle.dns_item.specs.declared.record_header.RecordHeader.{RecordHeader}

-- headers are equal if their owners are, ignoring ASCII case, and their numbers are
abbrev pub headers_equal : RecordHeader ParsedName → RecordHeader ParsedName → Bool
headers_equal =
    eq_of_both (on (λ h. labels (owner_of h)) names_equal)
    (eq_of_both (on rtype_of ◌==◌) (eq_of_both (on class_of ◌==◌) (eq_of_both (on ttl_of ◌==◌) (on rdlen_of ◌==◌))))

-- the n octets at offset p, or `None` if they aren't all there
abbrev pub octets_from : List ℕ → ℕ → ℕ → Option (List ℕ)
octets_from b p n = if nat_le (p + n) (length b) then Some (slice_range b p (p + n)) else None

-- the octets of a record's RDATA, or `None` if they aren't all there
abbrev pub raw_data : ParsedRecord → Option (List ℕ)
raw_data r = octets_from (octets_of r) (offset (data_parser r)) (rdlen_of (header_of r))

-- RDATA is the same octet for octet, or missing in both
abbrev pub same_raw_data : Option (List ℕ) → Option (List ℕ) → Bool
same_raw_data = option_eq (pointwise ◌==◌)

-- records are equal if their headers are and their RDATA is the same; pointers in RDATA aren't followed
abbrev pub parsed_records_equal : ParsedRecord → ParsedRecord → Bool
parsed_records_equal = eq_of_both (on header_of headers_equal) (on raw_data same_raw_data)
