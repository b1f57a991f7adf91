-- Why an item isn't put.
use Rattle.std.specs.Prelude.{◌≡◌, ◌≢◌, ℕ, ◌+◌, ◌<◌, ◌≤◌, ◌⊎◌, min, length, get_or}
use Rattle.dns_name.specs.Uncompressed.{IsUncompressed}
use Rattle.dns_code.specs.HeaderSection.{header_size}
use Rattle.dnsm_put.specs.declared.draft.PutItem.{PutItem}
use Rattle.dnsm_put.specs.declared.draft.Draft.{Draft}
use Rattle.dnsm_put.specs.declared.draft.PutError.{PutError}
use Rattle.dnsm_put.specs.declared.draft.PutError.TheVariants.{BadSection, BadName, LongData, BadData, TooMany, NoRoom}
use Rattle.dnsm_status.specs.declared.code.CallError.{CallError}
use Rattle.dnsm_status.specs.declared.code.CallError.TheVariants as faults
use Rattle.dnsm_put.specs.Rdata.{HasFields, IsTypeData, layout_of}
use Rattle.dnsm_put.specs.Items.{item_size}

-- The RDATA hasn't the names of its record type; or the draft asks for more, and it isn't the fields of that type.
abbrev pub LacksData : Draft → PutItem → Type 0
LacksData d item = (HasFields (layout_of item) item.rdata.now → ⊥) ⊎ ((d.unchecked ≡ 0) × (IsTypeData item → ⊥))

-- The error is a reason not to put the item at the end of the draft, in a buffer of n octets. There is no room if the item, with its names uncompressed, and
-- the reserved octets would pass the end of the buffer or the limit, or if the draft has no header section.
abbrev pub IsDue : Draft → ℕ → PutItem → PutError → Type 0
IsDue d n item BadSection = (3 < item.section) ⊎ (item.section < d.section)
IsDue d n item BadName = IsUncompressed item.name.now → ⊥
IsDue d n item LongData = (item.section ≢ 0) × (65535 < length item.rdata.now)
IsDue d n item BadData = (item.section ≢ 0) × LacksData d item
IsDue d n item TooMany = get_or d.counts item.section 0 ≡ 65535
IsDue d n item NoRoom = header_size ≤ d.len → min d.limit n < d.len + item_size item + d.reserved

-- the order in which the reasons are looked at
abbrev pub order_of : PutError → ℕ
order_of BadSection = 0
order_of BadName = 1
order_of LongData = 2
order_of BadData = 3
order_of TooMany = 4
order_of NoRoom = 5

-- The error is the first reason that applies.
pub record IsRefused (d : Draft) (n : ℕ) (item : PutItem) (error : PutError) : Type 0 where
  pub due : IsDue d n item error
  pub first : (other : PutError) → order_of other < order_of error → IsDue d n item other → ⊥

-- No reason applies, except that there may be no room.
pub record IsAcceptable (d : Draft) (item : PutItem) : Type 0 where
  pub in_order : (item.section ≤ 3) × (d.section ≤ item.section)
  pub name : IsUncompressed item.name.now
  pub short : item.section ≢ 0 → length item.rdata.now ≤ 65535
  pub fields : item.section ≢ 0 → HasFields (layout_of item) item.rdata.now
  pub checked : item.section ≢ 0 → d.unchecked ≡ 0 → IsTypeData item
  pub few : get_or d.counts item.section 0 < 65535

-- the fault that reports why an item isn't put
abbrev pub put_fault : PutError → CallError
put_fault BadSection = faults.BadSection
put_fault BadName = faults.BadText
put_fault LongData = faults.LongData
put_fault BadData = faults.BadData
put_fault TooMany = faults.TooMany
put_fault NoRoom = faults.NoRoom
