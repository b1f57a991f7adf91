-- Chains of aliases. RFC 1034 section 3.6.2.
--
-- `answers` is the reading of the answer section, `zone` the zone that the reply's server was asked about, and `q` the question.
use Rattle.std.specs.Prelude.{◌≡◌, ◌<◌, ◌&&◌, ℕ, zero, suc, not, if◌then◌else◌, min, Option, Some, None, option_map, option_and_then}
use Rattle.dns_name.specs.Names.{Labels}
use Rattle.dns_name.specs.NameOrders.{names_equal}
use Rattle.dns_name.specs.ParsedName.{labels}
use Rattle.dns_name.specs.declared.parsed_name.ParsedName.{ParsedName}
use Rattle.dns_code.specs.Ttl.{most_seconds}
use Rattle.dns_item.specs.Questions.{QuestionItem}
use Rattle.dns_reply.specs.Owners.{is_within}
use Rattle.dns_reply.specs.Records.{Records, owns_asked, alias_at}

-- a name and a TTL in seconds, as a value
abbrev pub name_and_ttl : ParsedName × ℕ → Labels × ℕ
name_and_ttl x = (labels x.0, x.1)

-- Where a chain goes on from a name, with the TTL of the alias: to the target of its CNAME record, if the name is within the zone. If the name owns a record
-- that is asked for, even a CNAME record, the chain ends there.
abbrev pub next_alias : Labels → QuestionItem → Records → Labels → Option (Labels × ℕ)
next_alias zone q answers name = if is_within name zone && not (owns_asked q answers name) then alias_at q.class answers name else None

-- The i-th name of a chain, with the least TTL of the aliases that lead to it (RFC 2181 section 5.2): first the question's name, with the greatest TTL.
unfoldable pub nth_name : Labels → QuestionItem → Records → ℕ → Option (Labels × ℕ)
nth_name zone q answers zero = Some (q.name, most_seconds)
nth_name zone q answers (suc i) =
    option_and_then (λ (x : Labels × ℕ). option_map (λ (next : Labels × ℕ). (next.0, min x.1 next.1)) (next_alias zone q answers x.0)) (nth_name zone q answers i)

-- for how long the aliases that lead to a name may be cached, if there are any, by the TTL that `nth_name` gives with the name: the question's own name is led to by none
abbrev pub ttl_of_aliases : QuestionItem → Labels → ℕ → Option ℕ
ttl_of_aliases q name ttl = if names_equal name q.name then None else Some ttl

-- How a chain ends: at the first of 20 names from which it doesn't go on, with the least TTL of the aliases; or it doesn't, if it goes on from all 20, as each loop does. RFC 1034 section 3.6.2 asks
-- to follow chains and to report loops, and section 5.3.3 to bound the work.
pub data ChainEnds (zone : Labels) (q : QuestionItem) (answers : Records) : Option (Labels × ℕ) → Type 0 where
  ends : (i : ℕ) (x : Labels × ℕ) → i < 20 → nth_name zone q answers i ≡ Some x → next_alias zone q answers x.0 ≡ None → ChainEnds zone q answers (Some x)
  goes_on : (x : Labels × ℕ) → nth_name zone q answers 20 ≡ Some x → ChainEnds zone q answers None
