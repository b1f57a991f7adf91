-- What a reply says, as C gets it. RFC 1034 section 5.3.3.
use Rattle.std.specs.Prelude.{◌≡◌, ℕ, ◌-◌, List, [], ◌++◌, length, replicate, Option, Some, None, option_map, unwrap_or}
use Rattle.dns_name.specs.Names.{Labels, uncompressed}
use Rattle.dns_item.specs.Items.{RecordItem}
use Rattle.dns_reply.specs.Laws.{name_said}
use Rattle.dns_reply.specs.Said.{Said}
use Rattle.dns_reply.specs.Said.Said.{Answered, NoData, NoName, Referred, Aliased, Redirected, Truncated, Failed, Done, Unreadable, ManyOpts, Looping, Lame}
use Rattle.dnsm_replies.specs.declared.saying.Saying.{Saying}

-- the number of what a reply says, as in dnsm.h
abbrev pub kind_of : Said → ℕ
kind_of (Answered name answers ttl) = 0
kind_of (NoData name soa ttl aliases) = 1
kind_of (NoName name soa ttl aliases) = 2
kind_of (Referred name cut aliases) = 3
kind_of (Aliased name ttl) = 4
kind_of (Redirected name owner target ttl) = 5
kind_of Truncated = 6
kind_of (Failed rcode) = 7
kind_of Done = 8
kind_of (Unreadable f) = 9
kind_of ManyOpts = 10
kind_of Looping = 11
kind_of Lame = 12

-- the rcode of a failure
abbrev pub rcode_said : Said → ℕ
rcode_said (Failed rcode) = rcode
rcode_said _ = 0

-- for how long what is said may be cached, in seconds
abbrev pub ttl_said : Said → ℕ
ttl_said (Answered name answers ttl) = ttl
ttl_said (NoData name soa ttl aliases) = ttl
ttl_said (NoName name soa ttl aliases) = ttl
ttl_said (Aliased name ttl) = ttl
ttl_said (Redirected name owner target ttl) = ttl
ttl_said _ = 0

-- for how long the aliases that lead to the name of a denial or a referral may be cached, or 0 without one
abbrev pub alias_ttl_said : Said → ℕ
alias_ttl_said (NoData name soa ttl aliases) = unwrap_or aliases 0
alias_ttl_said (NoName name soa ttl aliases) = unwrap_or aliases 0
alias_ttl_said (Referred name cut aliases) = unwrap_or aliases 0
alias_ttl_said _ = 0

-- the owner of an SOA record, if there is one
abbrev pub soa_owner : Option RecordItem → Option Labels
soa_owner = option_map (λ (x : RecordItem). x.owner)

-- the owner of the record that says so: the SOA record of a denial, the NS records of a referral, the DNAME record of a redirection
abbrev pub owner_said : Said → Option Labels
owner_said (NoData name soa ttl aliases) = soa_owner soa
owner_said (NoName name soa ttl aliases) = soa_owner soa
owner_said (Referred name cut aliases) = Some cut
owner_said (Redirected name owner target ttl) = Some owner
owner_said _ = None

-- the target of the DNAME record
abbrev pub target_said : Said → Option Labels
target_said (Redirected name owner target ttl) = Some target
target_said _ = None

-- the octets of a name, uncompressed, or none
abbrev pub octets_of : Option Labels → List ℕ
octets_of None = []
octets_of (Some name) = uncompressed name

-- The first octets of a buffer are those of a name, uncompressed, or there is none. The others are 0.
pub record HoldsName (out : List ℕ) (len : ℕ) (name : Option Labels) : Type 0 where
  pub size : len ≡ length (octets_of name)
  pub octets : out ≡ octets_of name ++ replicate (255 - len) 0

-- what C gets has these fields
pub record Holds (it : Saying) (kind rcode ttl alias_ttl : ℕ) (name owner target : Option Labels) : Type 0 where
  pub same_kind : it.kind ≡ kind
  pub same_rcode : it.rcode ≡ rcode
  pub same_ttl : it.ttl ≡ ttl
  pub same_alias_ttl : it.alias_ttl ≡ alias_ttl
  pub holds_name : HoldsName it.name it.name_len name
  pub holds_owner : HoldsName it.owner it.owner_len owner
  pub holds_target : HoldsName it.target it.target_len target

-- what C gets says this
abbrev pub Reports : Saying → Said → Type 0
Reports it x = Holds it (kind_of x) (rcode_said x) (ttl_said x) (alias_ttl_said x) (name_said x) (owner_said x) (target_said x)
