-- The records of a transfer, in the order in which they are sent. RFC 5936 section 2.2, RFC 1995 sections 2 and 4.
use Rattle.std.specs.Prelude.{List, [], ◌∷◌, ◌++◌}
use Rattle.std.specs.List.{flat_map}
use Rattle.dns_transfer.specs.Forms.{Difference, difference_records}

module _ {R : Type 0} where
  -- the whole zone: its SOA record, the other records, and the SOA record again. RFC 5936 section 2.2.
  abbrev pub whole_sequence : R → List R → List R
  whole_sequence soa others = soa ∷ others ++ soa ∷ []

  -- The differences, with the SOA record of the last version before and after them; or this record alone if there are none. RFC 1995 sections 4 and 2.
  abbrev pub changes_sequence : R → List (Difference R) → List R
  changes_sequence soa [] = soa ∷ []
  changes_sequence soa (d ∷ ds) = soa ∷ flat_map difference_records (d ∷ ds) ++ soa ∷ []
