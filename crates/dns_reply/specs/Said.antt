-- What a reply can say, as values. RFC 1034 section 5.3.3, RFC 2308 section 2, RFC 6672 section 3.
use Rattle.std.specs.Prelude.{ℕ, Option}
use Rattle.dns_name.specs.Names.{Fault, Labels}
use Rattle.dns_item.specs.Items.{RecordItem}
use Rattle.dns_reply.specs.Records.{Records}

-- `name` is always the name at the end of the chain of aliases. RFC 2308 section 1 calls it QNAME.
pub data Said : Type 0 where
  -- the name, the answer section, and for how long the records and the aliases may be cached
  Answered : Labels → Records → ℕ → Said
  -- the name, which has no records of the type, the SOA record and its TTL for this denial, and for how long the aliases may be cached, if there are any
  NoData : Labels → Option RecordItem → ℕ → Option ℕ → Said
  -- the same of a name that doesn't exist
  NoName : Labels → Option RecordItem → ℕ → Option ℕ → Said
  -- the name, the zone that it is delegated to, and for how long the aliases may be cached, if there are any
  Referred : Labels → Labels → Option ℕ → Said
  -- the name, which is outside the zone, and for how long the aliases may be cached, 0 if there are none
  Aliased : Labels → ℕ → Said
  -- the name, the owner and the target of the DNAME record above it, and for how long these and the aliases may be cached
  Redirected : Labels → Labels → Labels → ℕ → Said
  Truncated : Said
  Failed : ℕ → Said
  Done : Said
  Unreadable : Fault → Said
  ManyOpts : Said
  Looping : Said
  Lame : Said
