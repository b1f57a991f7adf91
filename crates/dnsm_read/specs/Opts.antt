-- OPT records that C gets and gives. RFC 6891 sections 6.1.2 and 6.1.3.
use Rattle.std.specs.Prelude.{◌≡◌, ◌==◌, ◌⊎◌, ◌<◌, ◌≤◌, ◌/◌, ◌%◌, ℕ, List, drop, length, take}
use Rattle.dns_edns.specs.OptHeader.{fields_in}
use Rattle.dns_edns.specs.Options.{OptionItem, OptionBegins}
use Rattle.dnsm_status.specs.Codes.{number_of}
use Rattle.dnsm_read.specs.DataFields.{data_end, up_to_data_end}
use Rattle.dnsm_status.specs.declared.code.CallError.TheVariants as faults
use Rattle.dnsm_read.specs.declared.opts.Opt.{Opt}
use Rattle.dnsm_read.specs.declared.opts.OptOption.{OptOption}
use Rattle.dnsm_read.specs.declared.walk.Item.{Item}

-- the item is an OPT record: it has that type, and is in the additional section. RFC 6891 section 6.1.1
pub record IsOpt (item : Item) : Type 0 where
  pub rtype : item.rtype ≡ 41
  pub section : item.section ≡ 3

-- A record's class and TTL have these fields. The flags are DO and the 15 bits Z. RFC 6891 section 6.1.3
pub record HasFields (class ttl : ℕ) (opt : Opt) : Type 0 where
  pub udp_size : opt.udp_size ≡ (fields_in class ttl).udp_payload_size
  pub rcode_high : opt.rcode_high ≡ (fields_in class ttl).ext
  pub version : opt.version ≡ (fields_in class ttl).version
  pub dnssec_ok : (opt.flags / 32768 % 2 == 1) ≡ (fields_in class ttl).dnssec_ok
  pub z : opt.flags % 32768 ≡ (fields_in class ttl).z

-- the item is an OPT record whose RDATA is within the message
pub record HoldsOpt (b : List ℕ) (item : Item) : Type 0 where
  pub opt : IsOpt item
  pub within : data_end item ≤ length b

-- offset p is in an item's RDATA, or at its end
pub record IsInData (item : Item) (p : ℕ) : Type 0 where
  pub start : item.«data» ≤ p
  pub end : p ≤ data_end item

-- the octets of an item's RDATA from offset p on
abbrev pub data_from : List ℕ → Item → ℕ → List ℕ
data_from b item p = drop p (up_to_data_end b item)

-- an option that C gets: its code, and the octets at its offset
abbrev pub option_at : List ℕ → OptOption → OptionItem
option_at b option = record { code = option.code; octets = take option.data_len (drop option.«data» b) }

-- no option begins these octets
abbrev pub BeginsNoOption : List ℕ → Type 0
BeginsNoOption b = (x : OptionItem) (after : List ℕ) → OptionBegins x b after → ⊥

-- No option can be read from offset p on, and the number says why: the item isn't an OPT record, its RDATA isn't within the message, p isn't in the RDATA, or no whole option begins there.
abbrev pub LacksOption : List ℕ → Item → ℕ → ℕ → Type 0
LacksOption b item p n =
    ((IsOpt item → ⊥) × (n ≡ number_of faults.NotOpt))
    ⊎ (IsOpt item × (length b < data_end item) × (n ≡ number_of faults.ShortInput))
    ⊎ (HoldsOpt b item × (IsInData item p → ⊥) × (n ≡ number_of faults.BadOption))
    ⊎ (HoldsOpt b item × IsInData item p × BeginsNoOption (data_from b item p) × (p < data_end item) × (n ≡ number_of faults.BadOption))
