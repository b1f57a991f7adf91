-- How records compare: by owner, class and RDATA, never by the TTL (RFC 2136 section 1.1.1), and their canonical order (RFC 4034 section 6).
use Rattle.std.specs.Prelude.{ℕ, Bool, ◌++◌, ◌==◌}
use Rattle.std.specs.Hash.{HashWrites, u16}
use Rattle.std.specs.Ordering.{on, nat_cmp, then_cmp, eq_of_both}
use Rattle.std.specs.declared.cmp.Ordering.{Ordering}
use Rattle.dns_name.specs.Names.{Labels}
use Rattle.dns_name.specs.NameOrders.{name_order}
use Rattle.dns_item.specs.Record.{owner_of, class_of, data_of}
use Rattle.dns_item.specs.declared.record.Record.{Record}

module _ {N D : Type 0} where
  -- records are equal if their owners, classes and RDATA are
  abbrev pub records_equal : (N → N → Bool) → (D → D → Bool) → Record N D → Record N D → Bool
  records_equal same_name same_data = eq_of_both (on owner_of same_name) (eq_of_both (on class_of ◌==◌) (on data_of same_data))

  -- the order of records: by owner, then by class, then by RDATA
  abbrev pub record_order : (N → N → Ordering) → (D → D → Ordering) → Record N D → Record N D → Ordering
  record_order owner_order data_order = then_cmp (on owner_of owner_order) (then_cmp (on class_of nat_cmp) (on data_of data_order))

  -- what a record feeds a hasher: owner, class and RDATA
  abbrev pub record_hash_input : (N → HashWrites) → (D → HashWrites) → Record N D → HashWrites
  record_hash_input of_name of_data r = of_name (owner_of r) ++ (u16 (class_of r) ++ of_data (data_of r))

  -- The canonical order: by class, then by owner, then by type, then by the canonical order of the RDATA. RFC 4034 sections 6.1 and 6.3.
  abbrev pub canonical_record_order : (N → Labels) → (D → ℕ) → (D → D → Ordering) → Record N D → Record N D → Ordering
  canonical_record_order labels_of rtype_of data_order =
      then_cmp (on class_of nat_cmp)
      (then_cmp (on (λ r. labels_of (owner_of r)) name_order) (then_cmp (on (λ r. rtype_of (data_of r)) nat_cmp) (on data_of data_order)))
