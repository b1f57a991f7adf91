-- How RDATA of a record type of one's own compares, and what it feeds a hasher.
use Rattle.std.specs.Prelude.{◌≡◌, ℕ, Bool, IsTrue, List}
use Rattle.std.specs.Cmp.{IsEquivalence, IsTotalOrder, IsPartialOrder, po, on_equiv, on_total}
use Rattle.std.specs.Cmp.Lexicographic.{pointwise, slice_cmp, lists_equiv, lists_total, nat_list_cmp_total}
use Rattle.std.specs.Hash as fed
use Rattle.std.specs.List.{flat_map}
use Rattle.std.specs.Ordering.{on, eq_by_cmp, as_partial_cmp}
use Rattle.std.specs.declared.cmp.Ordering.{Ordering}
use Rattle.dns_data.specs.CanonicalOrders.{octet_order}
use Rattle.fields_table.specs.DataOrders.{part_equal, part_order, part_hash_input, octets_in_canonical_form}
use Rattle.fields_table.specs.OrderLaws.{part_equal-equiv, part_order-total, parts_order-ties, parts_alike}
use Rattle.fields_table.specs.OwnTypes.{own_parts_of}
use Rattle.fields_table.specs.declared.own.DataOf.{DataOf}
use Rattle.fields_table.specs.declared.own.RecordFields.{Ghosts}

module _ {T : Type 0} {g : Ghosts T} where
  -- RDATA is equal if the parts are
  abbrev pub own_equal : DataOf T g → DataOf T g → Bool
  own_equal = on own_parts_of (pointwise part_equal)

  -- The order of RDATA: by the first parts that differ.
  abbrev pub own_order : DataOf T g → DataOf T g → Ordering
  own_order = on own_parts_of (slice_cmp part_order)

  -- what RDATA feeds a hasher: the parts in order
  abbrev pub own_hash_input : DataOf T g → fed.HashWrites
  own_hash_input value = flat_map part_hash_input (own_parts_of value)

  -- the octets of RDATA in canonical form
  abbrev pub own_canonical_octets : DataOf T g → List ℕ
  own_canonical_octets value = octets_in_canonical_form (own_parts_of value)

  -- The canonical order of RDATA: by all octets of the canonical form. RFC 4034 section 6.3.
  abbrev pub own_canonical_order : DataOf T g → DataOf T g → Ordering
  own_canonical_order = on own_canonical_octets octet_order

  pub own_equal-equiv : IsEquivalence own_equal
  own_equal-equiv = on_equiv own_parts_of (lists_equiv part_equal-equiv)

  pub own_order-total : IsTotalOrder own_order
  own_order-total = on_total own_parts_of (lists_total part_order-total)

  pub own_canonical_order-total : IsTotalOrder own_canonical_order
  own_canonical_order-total = on_total own_canonical_octets nat_list_cmp_total

  pub own_order-ties : (x y : DataOf T g) → own_equal x y ≡ eq_by_cmp own_order x y
  own_order-ties x y = parts_order-ties (own_parts_of x) (own_parts_of y)

  pub own_order-partial : IsPartialOrder own_equal (as_partial_cmp own_order)
  own_order-partial = po own_order-total own_order-ties

  pub own_hash_input-alike : (x y : DataOf T g) → IsTrue (own_equal x y) → own_hash_input x ≡ own_hash_input y
  own_hash_input-alike x y h = parts_alike (own_parts_of x) (own_parts_of y) h
