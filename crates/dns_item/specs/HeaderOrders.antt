-- How record headers compare and hash: field by field, in the order of the wire. RFC 1035 section 4.1.3.
use Rattle.std.specs.Prelude.{Bool, ◌++◌, ◌==◌}
use Rattle.std.specs.Hash.{HashWrites, u16, u32}
use Rattle.std.specs.Ordering.{on, nat_cmp, then_cmp, eq_of_both}
use Rattle.std.specs.declared.cmp.Ordering.{Ordering}
use Rattle.dns_item.specs.RecordHeader.{owner_of, rtype_of, class_of, ttl_of, rdlen_of}
use Rattle.dns_item.specs.declared.record_header.RecordHeader.{RecordHeader}

module _ {N : Type 0} where
  -- headers are equal if all fields are
  abbrev pub headers_equal : (N → N → Bool) → RecordHeader N → RecordHeader N → Bool
  headers_equal same_name =
      eq_of_both (on owner_of same_name)
      (eq_of_both (on rtype_of ◌==◌) (eq_of_both (on class_of ◌==◌) (eq_of_both (on ttl_of ◌==◌) (on rdlen_of ◌==◌))))

  -- the order of headers: by owner, then by type, class, TTL and RDLENGTH
  abbrev pub header_order : (N → N → Ordering) → RecordHeader N → RecordHeader N → Ordering
  header_order name_order =
      then_cmp (on owner_of name_order)
      (then_cmp (on rtype_of nat_cmp) (then_cmp (on class_of nat_cmp) (then_cmp (on ttl_of nat_cmp) (on rdlen_of nat_cmp))))

  -- what a header feeds a hasher: its fields, in the order of the wire
  abbrev pub header_hash_input : (N → HashWrites) → RecordHeader N → HashWrites
  header_hash_input of_name h = of_name (owner_of h) ++ (u16 (rtype_of h) ++ (u16 (class_of h) ++ (u32 (ttl_of h) ++ u16 (rdlen_of h))))
