-- The fields of a record. RFC 1035 section 4.1.3.
use Rattle.std.specs.Prelude.{◌≡◌, ℕ, List}
use Rattle.dns_name.specs.Names.{Labels}
use Rattle.dns_wire.specs.Parts.{Part}
use Rattle.dns_item.specs.Items.{RecordItem}
use Rattle.dns_item.specs.declared.record.Record.{Record}

module _ {N D : Type 0} where
  -- the fields
  abbrev pub owner_of : Record N D → N
  owner_of r = r.owner

  abbrev pub class_of : Record N D → ℕ
  class_of r = r.class

  abbrev pub ttl_of : Record N D → ℕ
  ttl_of r = r.ttl

  abbrev pub data_of : Record N D → D
  data_of r = r.data

  -- a record with other RDATA
  abbrev pub with_data : Record N D → D → Record N D
  with_data r value = record r { «data» = value }

  -- the record with these fields
  pub record HasFields (r : Record N D) (owner : N) (class ttl : ℕ) (value : D) : Type 0 where
    pub same_owner : owner_of r ≡ owner
    pub same_class : class_of r ≡ class
    pub same_ttl : ttl_of r ≡ ttl
    pub same_data : data_of r ≡ value

  module _ (labels_of : N → Labels) (rtype_of : D → ℕ) (parts_of : D → List Part) where
    -- the record with these fields as a value: the labels of its owner, and the type and parts of its RDATA
    abbrev pub item_of_fields : N → ℕ → ℕ → D → RecordItem
    item_of_fields owner class ttl value =
        record { owner = labels_of owner; rtype = rtype_of value; class = class; ttl = ttl; parts = parts_of value }

    -- a record as a value
    abbrev pub record_item : Record N D → RecordItem
    record_item r = item_of_fields (owner_of r) (class_of r) (ttl_of r) (data_of r)
