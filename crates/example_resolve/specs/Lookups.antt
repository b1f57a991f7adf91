-- What a reply tells a look-up to do next, by what it says (`Says` of dns_reply). RFC 1034 section 5.3.3, RFC 2181 section 9, RFC 6672 section 2.2.
use Rattle.std.specs.Prelude.{◌≡◌, ◌+◌, ℕ, Bool, true, false, List, [], Option, Some, None, MatchBool, MatchOption}
use Rattle.dns_message.specs.Builders.{encode}
use Rattle.dns_message.specs.Names.{Labels, name_labels, names_equal}
use Rattle.dns_message.specs.Replies.{Records, Said, Answered, NoData, NoName, Referred, Aliased, Redirected, Truncated, Failed, Done, Unreadable, ManyOpts, Looping, Lame}
use Rattle.dns_message.specs.Replies.{Says, Substitutes, members, members_left, said_of}
use Rattle.dns_message.specs.Targets.{Plain}
use Rattle.dns_message.specs.declared.reply.Reply.TheVariants as replies
use Rattle.example_resolve.specs.Queries.{asking, query_fields}
use Rattle.example_resolve.specs.declared.resolving.Lookup.{Lookup}
use Rattle.example_resolve.specs.declared.resolving.Next.{Next}
use Rattle.example_resolve.specs.declared.resolving.Next.TheVariants as nexts

-- the octets of a look-up's query with an ID (`IsQuery`)
abbrev pub query_of : ℕ → Lookup → List ℕ
query_of id old = (encode Plain (asking (query_fields id) (record { name = name_labels old.name; rtype = old.rtype; class = 1 }))).octets

-- A look-up asks next for this name and the same type, at the servers of this zone, over TCP or not. That takes one of its budget.
pub record AsksNext (old later : Lookup) (wanted at : Labels) (tcp : Bool) : Type 0 where
  pub name : name_labels later.name ≡ wanted
  pub zone : name_labels later.zone ≡ at
  pub same_type : later.rtype ≡ old.rtype
  pub transport : later.over_tcp ≡ tcp
  pub spends : later.budget + 1 ≡ old.budget

-- it does so, unless its budget is spent
abbrev pub Asks : Lookup → Labels → Labels → Bool → Next → Type 0
Asks old wanted at tcp (nexts.Ask later) = AsksNext old later wanted at tcp
Asks old wanted at tcp nexts.Spent = old.budget ≡ 0
Asks old wanted at tcp _ = ⊥

-- it asks for another name, again at the servers of the root
abbrev pub Restarts : Lookup → Labels → Next → Type 0
Restarts old wanted next = Asks old wanted [] false next

-- these records are found
abbrev pub Finds : Records → Next → Type 0
Finds records (nexts.Found set) = members_left set ≡ records
Finds records _ = ⊥

-- another server has to be asked, as a reply that says this is of no use
abbrev pub AsksAnother : Said → Next → Type 0
AsksAnother said (nexts.Unusable why) = said_of (replies.Unusable why) ≡ said
AsksAnother said _ = ⊥

-- What a reply that says this tells to do.
abbrev pub Tells : Lookup → Said → Next → Type 0
-- the records of the type and of class IN (1) that the name at the end of the chain of aliases owns
Tells old (Answered name answers ttl) next = Finds (members name 1 old.rtype answers) next
-- with an SOA record it is a denial; without one, the server has perhaps sent the alias alone that leads to another name
Tells old (NoData name (Some soa) ttl aliases) next = next ≡ nexts.NoData
Tells old (NoData name None ttl aliases) next = MatchBool (names_equal name (name_labels old.name)) (next ≡ nexts.NoData) (Restarts old name next)
Tells old (NoName name soa ttl aliases) next = next ≡ nexts.NoName
-- the name at the end of the chain of aliases, at the servers of the zone to which it is delegated
Tells old (Referred name cut aliases) next = Asks old name cut false next
Tells old (Aliased name ttl) next = Restarts old name next
-- the name that the DNAME record leads to; YXDOMAIN (6) if that is too long
Tells old (Redirected name owner target ttl) next =
    (made : Option Labels) × Substitutes name owner target made × MatchOption made (next ≡ nexts.Failed 6) (λ wanted. Restarts old wanted next)
Tells old Truncated next = Asks old (name_labels old.name) (name_labels old.zone) true next
Tells old (Failed rcode) next = next ≡ nexts.Failed rcode
Tells old Done next = next ≡ nexts.Failed 0
Tells old (Unreadable f) next = AsksAnother (Unreadable f) next
Tells old ManyOpts next = AsksAnother ManyOpts next
Tells old Looping next = AsksAnother Looping next
Tells old Lame next = AsksAnother Lame next

-- What a reply tells to do, by what it says of the zone whose servers were asked.
pub record Told (b : List ℕ) (old : Lookup) (next : Next) : Type 0 where
  pub said : Said
  pub says : Says b (name_labels old.zone) said
  pub tells : Tells old said next
