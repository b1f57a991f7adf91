-- What a received message says of a query. RFC 1034 section 5.3.3, RFC 5452 section 9.1.
use Rattle.std.specs.Prelude.{◌≡◌, ◌⊎◌, ◌<◌, ◌≤◌, ℕ, List, length}
use Rattle.dns_name.specs.Names.{IsName, Labels, uncompressed}
use Rattle.dns_name.specs.Uncompressed.{IsUncompressed}
use Rattle.dns_code.specs.HeaderSection.{header_size}
use Rattle.dns_reply.specs.Matches.{IsNotReply, IsReply}
use Rattle.dns_reply.specs.Said.{Said}
use Rattle.dns_reply.specs.Sayings.{Says}
use Rattle.dns_reply.specs.declared.matching.LetterCase.TheVariants.{Ignored}
use Rattle.dns_reply.specs.declared.reply.NotReply.{NotReply}
use Rattle.dns_reply.specs.declared.reply.NotReply.TheVariants as reasons
use Rattle.dnsm_status.specs.Codes.{number_of}
use Rattle.dnsm_status.specs.declared.code.CallError.{CallError}
use Rattle.dnsm_status.specs.declared.code.CallError.TheVariants as faults
use Rattle.dnsm_replies.specs.Sayings.{Reports}
use Rattle.dnsm_replies.specs.declared.saying.Saying.{Saying}

-- both have a header section
pub record AreLong (query received : List ℕ) : Type 0 where
  pub query_long : header_size ≤ length query
  pub received_long : header_size ≤ length received

-- The message is a reply to the query, ignoring ASCII case, and this is what it says, if its server is asked about the zone whose name, uncompressed, these octets are.
pub record SaysReply (query received zone : List ℕ) (saying : Saying) : Type 0 where
  pub long : AreLong query received
  pub is_reply : IsReply Ignored received query
  pub zone_name : Labels
  pub is_name : IsName zone_name
  pub zone_octets : uncompressed zone_name ≡ zone
  pub said : Said
  pub says : Says received zone_name said
  pub reports : Reports saying said

-- the fault that reports why a message is no reply
abbrev pub fault_of_reason : NotReply → CallError
fault_of_reason reasons.NoResponse = faults.NoResponse
fault_of_reason reasons.OtherId = faults.OtherQuery
fault_of_reason reasons.OtherOpcode = faults.OtherQuery
fault_of_reason reasons.OtherQuestion = faults.OtherQuery

-- There is nothing to say, and the number says why. It is the first of: shorter than a header section, no name of a zone, no reply to the query.
abbrev pub LacksReply : List ℕ → List ℕ → List ℕ → ℕ → Type 0
LacksReply query received zone n =
    (((length query < header_size) ⊎ (length received < header_size)) × (n ≡ number_of faults.ShortInput))
    ⊎ (AreLong query received × (IsUncompressed zone → ⊥) × (n ≡ number_of faults.BadText))
    ⊎ (AreLong query received × IsUncompressed zone × ((why : NotReply) × IsNotReply Ignored received query why × (n ≡ number_of (fault_of_reason why))))
