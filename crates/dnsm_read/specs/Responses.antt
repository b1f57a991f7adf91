-- Which responses answer a query. RFC 1035 section 4.1.1, RFC 5452 section 9.1.
use Rattle.std.specs.Prelude.{◌≡◌, ◌⊎◌, ◌<◌, ◌≤◌, ℕ, true, false, List, length, take}
use Rattle.dns_code.specs.Header.{HeaderFields, fields_in}
use Rattle.dns_code.specs.HeaderSection.{header_size}
use Rattle.dns_read.specs.Searches.{answers_query}
use Rattle.dnsm_status.specs.Codes.{number_of}
use Rattle.dnsm_status.specs.declared.code.CallError.TheVariants as faults

-- both have a header section
pub record AreLong (query response : List ℕ) : Type 0 where
  pub query_long : header_size ≤ length query
  pub response_long : header_size ≤ length response

-- the header of a message
abbrev pub header_of : List ℕ → HeaderFields
header_of b = fields_in (take 4 b)

-- A response answers a query: QR is set, and its ID, its opcode and its questions are those of the query.
pub record Answers (query response : List ℕ) : Type 0 where
  pub long : AreLong query response
  pub opcode : (header_of response).opcode ≡ (header_of query).opcode
  pub answers : answers_query response query ≡ true

-- It doesn't, and the number says why. It is the first of: shorter than a header section, no response, the response to another query.
abbrev pub LacksAnswer : List ℕ → List ℕ → ℕ → Type 0
LacksAnswer query response n =
    (((length query < header_size) ⊎ (length response < header_size)) × (n ≡ number_of faults.ShortInput))
    ⊎ (AreLong query response × ((header_of response).qr ≡ false) × (n ≡ number_of faults.NoResponse))
    ⊎ (AreLong query response × ((header_of response).qr ≡ true) × (Answers query response → ⊥) × (n ≡ number_of faults.OtherQuery))
