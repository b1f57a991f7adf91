-- What a reply says of the first question, in a zone that its server is asked about. RFC 1034 sections 4.3.2 and 5.3.3, RFC 2308 section 2, RFC 6604 section 3.
--
-- `b` is the octets of the reply. Only records whose owners are within the zone say anything, as the server speaks for no other names; NS records of a zone above can make it lame, and
-- any malformed record unreadable.
use Rattle.std.specs.Prelude.{◌≡◌, ◌⊎◌, ◌<◌, ◌≤◌, ◌==◌, ℕ, false, true, List, take, min, if◌then◌else◌, Option, Some, None, is_some, unwrap_or}
use Rattle.dns_name.specs.Names.{Fault, Labels}
use Rattle.dns_code.specs.Header.{HeaderFields, fields_in}
use Rattle.dns_item.specs.Items.{RecordItem}
use Rattle.dns_item.specs.Questions.{QuestionItem}
use Rattle.dns_read.specs.OptSearches.{opt_rcode_of}
use Rattle.dns_read.specs.Searches.{asked_first}
use Rattle.dns_read.specs.SectionStarts.{records_of}
use Rattle.dns_read.specs.declared.section.Section.TheVariants as sections
use Rattle.dns_reply.specs.Owners.{is_within}
use Rattle.dns_reply.specs.Records.{Records, IsReadable, IsUnreadable, opt_count, owns_asked, asked_records, least_ttl, dname_above, soa_for, ns_for, has_ns, negative_ttl, target_in}
use Rattle.dns_reply.specs.Chains.{ChainEnds, ttl_of_aliases}
use Rattle.dns_reply.specs.Said.{Said}
use Rattle.dns_reply.specs.Said.Said.{Answered, NoData, NoName, Referred, Aliased, Redirected, Truncated, Failed, Done, Unreadable, ManyOpts, Looping, Lame}

-- the fields of a message's header
abbrev pub header_of : List ℕ → HeaderFields
header_of b = fields_in (take 4 b)

-- the question that a message answers: its first, if its opcode is QUERY (0)
abbrev pub question_of : List ℕ → Option QuestionItem
question_of b = if (header_of b).opcode == 0 then asked_first b else None

-- A reply whose records count: it is readable, and it has at most one OPT record (RFC 6891 section 6.1.1).
pub record IsSound (b : List ℕ) : Type 0 where
  pub readable : IsReadable b
  pub one_opt : opt_count b ≤ 1

-- RFC 2308 sections 2.1 and 2.2: NOERROR (0) and name error (NXDOMAIN, 3) are the RCODEs of replies that say something of a name.
abbrev pub IsNoError : ℕ → Type 0
IsNoError rcode = rcode ≡ 0

abbrev pub IsNameError : ℕ → Type 0
IsNameError rcode = rcode ≡ 3

-- What the authority section says of a name that owns no record asked for, in the classes of the question. The name is within the zone. `aliases` is for how long the aliases that lead to it may be
-- cached (RFC 2181 section 5.2), if there are any.
pub data SaysNone (authorities : Records) (rcode qclass : ℕ) (zone name : Labels) (aliases : Option ℕ) : Said → Type 0 where
  -- RFC 2308 section 2.1, types 1 to 4: the RCODE is name error, whatever the authority section has
  no_name : (soa : Option RecordItem) → IsNameError rcode → soa_for qclass zone authorities name ≡ soa
      → SaysNone authorities rcode qclass zone name aliases (NoName name soa (negative_ttl soa) aliases)
  -- RFC 2308 section 2.2, types 1 and 2: an SOA record
  no_data : (soa : RecordItem) → IsNoError rcode → soa_for qclass zone authorities name ≡ Some soa
      → SaysNone authorities rcode qclass zone name aliases (NoData name (Some soa) (negative_ttl (Some soa)) aliases)
  -- RFC 2308 section 2.2, type 3: no NS records (`has_ns`), and no SOA record of a zone that the name is in. If an alias led to the name, NS records of no zone below it don't count: the server
  -- has perhaps sent the alias alone (RFC 1034 section 5.3.3, step 4c).
  no_authority : IsNoError rcode → soa_for qclass zone authorities name ≡ None
      → (has_ns qclass zone authorities name ≡ false) ⊎ ((is_some aliases ≡ true) × (ns_for qclass zone authorities name ≡ None))
      → SaysNone authorities rcode qclass zone name aliases (NoData name None (negative_ttl None) aliases)
  -- RFC 1034 section 4.3.2, step 3b, and RFC 2308 section 2.2: NS records of a zone below, without an SOA record
  referral : (ns : RecordItem) → IsNoError rcode → soa_for qclass zone authorities name ≡ None → ns_for qclass zone authorities name ≡ Some ns
      → SaysNone authorities rcode qclass zone name aliases (Referred name ns.owner aliases)
  -- RFC 1034 section 5.3.3, step 4: NS records, but no better delegation
  lame : IsNoError rcode → soa_for qclass zone authorities name ≡ None → has_ns qclass zone authorities name ≡ true → ns_for qclass zone authorities name ≡ None → is_some aliases ≡ false
      → SaysNone authorities rcode qclass zone name aliases Lame

-- What a reply says of the name at the end of the chain, which is within the zone. `ttl` is the least of the aliases that lead to it.
pub data SaysAt (answers authorities : Records) (rcode : ℕ) (zone : Labels) (q : QuestionItem) (name : Labels) (ttl : ℕ) : Said → Type 0 where
  -- RFC 1034 section 4.3.2, step 3a: records that the question asks for
  answer : IsNoError rcode → owns_asked q answers name ≡ true
      → SaysAt answers authorities rcode zone q name ttl (Answered name answers (least_ttl ttl (asked_records q answers name)))
  -- RFC 6672 section 3: a DNAME record above the name, without the CNAME record that a server synthesises (section 3.1). What else the reply has is of another name.
  dname : (x : RecordItem) (target : Labels) → (IsNoError rcode → owns_asked q answers name ≡ false) → dname_above q.class zone answers name ≡ Some x → target_in x.parts ≡ Some target
      → SaysAt answers authorities rcode zone q name ttl (Redirected name x.owner target (min ttl x.ttl))
  -- neither
  none : {x : Said} → (IsNoError rcode → owns_asked q answers name ≡ false) → dname_above q.class zone answers name ≡ None
      → SaysNone authorities rcode q.class zone name (ttl_of_aliases q name ttl) x
      → SaysAt answers authorities rcode zone q name ttl x

-- What a reply says of its question.
pub data SaysOf (answers authorities : Records) (rcode : ℕ) (zone : Labels) (q : QuestionItem) : Said → Type 0 where
  -- RFC 1034 section 3.6.2: the chain of aliases loops, or is too long
  loop : ChainEnds zone q answers None → SaysOf answers authorities rcode zone q Looping
  -- The chain leads out of the zone (RFC 1034 section 5.3.3, step 4c). The RCODE is that of the name where it ends (RFC 6604 section 3), of which the server says nothing. If
  -- that is the question's own name, no alias may be cached.
  alias : (name : Labels) (ttl : ℕ) → ChainEnds zone q answers (Some (name, ttl)) → is_within name zone ≡ false
      → SaysOf answers authorities rcode zone q (Aliased name (unwrap_or (ttl_of_aliases q name ttl) 0))
  -- the chain ends within the zone
  named : (name : Labels) (ttl : ℕ) {x : Said} → ChainEnds zone q answers (Some (name, ttl)) → is_within name zone ≡ true → SaysAt answers authorities rcode zone q name ttl x
      → SaysOf answers authorities rcode zone q x

-- What a reply to a question says.
pub data SaysTo (b : List ℕ) (zone : Labels) (q : QuestionItem) : Said → Type 0 where
  -- RFC 1034 section 5.3.3, step 4d: bizarre contents
  unreadable : {f : Fault} → IsUnreadable b f → SaysTo b zone q (Unreadable f)
  -- RFC 6891 section 6.1.1: more than one OPT record
  many_opts : IsReadable b → 1 < opt_count b → SaysTo b zone q ManyOpts
  -- an RCODE that says nothing of a name
  failed : IsSound b → (IsNoError (opt_rcode_of b) → ⊥) → (IsNameError (opt_rcode_of b) → ⊥) → SaysTo b zone q (Failed (opt_rcode_of b))
  -- its records
  records : {x : Said} → IsSound b → IsNoError (opt_rcode_of b) ⊎ IsNameError (opt_rcode_of b)
      → SaysOf (records_of sections.Answer b) (records_of sections.Authority b) (opt_rcode_of b) zone q x → SaysTo b zone q x

-- What a reply says.
pub data Says (b : List ℕ) (zone : Labels) : Said → Type 0 where
  -- RFC 2181 section 9: a reply with TC set is ignored, and the query sent again over another transport
  truncated : (header_of b).tc ≡ true → Says b zone Truncated
  -- NOERROR to a request that asks for no records, as UPDATE (RFC 2136 section 3.8), or to a query without a question (RFC 7873 section 5.4)
  done : (header_of b).tc ≡ false → question_of b ≡ None → IsNoError (opt_rcode_of b) → Says b zone Done
  -- an error without a question (RFC 1035 section 4.1.1), or to such a request
  refused : (header_of b).tc ≡ false → question_of b ≡ None → (IsNoError (opt_rcode_of b) → ⊥) → Says b zone (Failed (opt_rcode_of b))
  -- a reply to a question
  asked : {q : QuestionItem} {x : Said} → (header_of b).tc ≡ false → question_of b ≡ Some q → SaysTo b zone q x → Says b zone x
