-- The records that are still to be sent. RFC 5936 section 2.2, RFC 1995 section 4.
use Rattle.std.specs.Prelude.{List, [], ◌∷◌, ◌++◌, map}
use Rattle.std.specs.List.{flat_map}
use Rattle.dns_item.specs.Items.{RecordItem}
use Rattle.dns_transfer.specs.Forms as forms
use Rattle.dns_transfer.specs.Forms.{difference_records}
use Rattle.dns_transfer_writer.specs.declared.queue.Difference.{Difference}
use Rattle.dns_transfer_writer.specs.declared.queue.Next.{Next}
use Rattle.dns_transfer_writer.specs.declared.queue.Next.TheVariants.{First, Added, Removed, Last, Nothing}
use Rattle.dns_transfer_writer.specs.declared.queue.Queue.{Queue}

module _ {R : Type 0} (item : R → RecordItem) where
  -- a difference, with its records as values
  abbrev pub difference_of : Difference R → forms.Difference RecordItem
  difference_of d = record { old_soa = item d.old_soa.now; removed = map item d.removed.now; new_soa = item d.new_soa.now; added = map item d.added.now }

  -- several differences
  abbrev pub differences_of : List (Difference R) → List (forms.Difference RecordItem)
  differences_of = map difference_of

  -- records that are added, the differences after them, and the SOA record
  abbrev pub added_items : RecordItem → List R → List (Difference R) → List RecordItem
  added_items soa added later = map item added ++ (flat_map difference_records (differences_of later) ++ soa ∷ [])

  -- records that are removed, and the SOA record of the newer version before what comes next
  abbrev pub removed_items : RecordItem → List R → R → List R → List (Difference R) → List RecordItem
  removed_items soa removed new_soa added later = map item removed ++ (item new_soa ∷ added_items soa added later)

  -- what comes next
  abbrev pub next_items : RecordItem → Next R → List RecordItem
  next_items soa (First added later) = soa ∷ added_items soa added.now later.now
  next_items soa (Added added later) = added_items soa added.now later.now
  next_items soa (Removed removed new_soa added later) = removed_items soa removed.now new_soa.now added.now later.now
  next_items soa Last = soa ∷ []
  next_items soa Nothing = []

  -- the records that are still to be sent
  abbrev pub queue_items : Queue R → List RecordItem
  queue_items queue = next_items (item queue.soa.now) queue.next
