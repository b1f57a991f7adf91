-- What conversions of records keep.
use Rattle.std.specs.Prelude.{◌≡◌, ℕ, Result, Ok, Err}
use Rattle.dns_octets.specs.Converts.{joined}
use Rattle.dns_octets.specs.declared.error.AppendError.{AppendError}
use Rattle.dns_item.specs.Record.{owner_of, class_of, ttl_of, data_of}
use Rattle.dns_item.specs.declared.record.Record.{Record}

-- the converted record has the owner and the RDATA as the two conversions keep them, and the same class and TTL
pub record KeepsRecord {M E N D : Type 0} (KeepsOwner : M → N → Type 0) (KeepsData : E → D → Type 0) (source : Record M E) (r : Record N D) : Type 0 where
  pub owner : KeepsOwner (owner_of source) (owner_of r)
  pub class : class_of r ≡ class_of source
  pub ttl : ttl_of r ≡ ttl_of source
  pub value : KeepsData (data_of source) (data_of r)

module _ {N D : Type 0} where
  -- the record of an owner and RDATA, or the error
  abbrev pub with_fields : ℕ → ℕ → Result (N × D) AppendError → Result (Record N D) AppendError
  with_fields class ttl (Ok (owner, value)) = Ok (record { owner = owner; class = class; ttl = ttl; «data» = value })
  with_fields class ttl (Err e) = Err e

  -- the record of a converted owner and converted RDATA; `ShortBuf` of either takes precedence over `OutOfMemory`
  abbrev pub joined_record : Result N AppendError → ℕ → ℕ → Result D AppendError → Result (Record N D) AppendError
  joined_record owner class ttl value = with_fields class ttl (joined owner value)
