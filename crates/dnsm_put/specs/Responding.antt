-- How the response to any query begins. RFC 1035 section 4.1.1, RFC 6891 section 6.1.
--
-- `b` is the octets of the query. `wanted` is the extended rcode of the response, unless the query's OPT records ask for another one.
use Rattle.std.specs.Prelude.{◌≡◌, ◌⊎◌, ◌≤◌, ◌<◌, ◌%◌, ◌/◌, ℕ, List, Option, None, Some, if◌then◌else◌, length, max, take, true}
use Rattle.dns_code.specs.Header.{fields_in}
use Rattle.dns_code.specs.HeaderSection.{header_size}
use Rattle.dns_item.specs.OptRecord.{OptItem}
use Rattle.dns_item.specs.Questions.{QuestionItem}
use Rattle.dns_read.specs.OptSearches.{opt_of}
use Rattle.dns_build.specs.Responses.{header_to, rcode_to}
use Rattle.dns_build.specs.State.{State, with_question, up_to, InBuilder}
use Rattle.dnsm_read.specs.Asked.{HoldsQuery}
use Rattle.dnsm_read.specs.declared.opts.Opt.{Opt}
use Rattle.dnsm_put.specs.declared.draft.Draft.{Draft}
use Rattle.dnsm_put.specs.declared.response.ResponseError.{ResponseError}
use Rattle.dnsm_put.specs.declared.response.ResponseError.TheVariants.{ShortInput, IsResponse, NoQuestion, BadQuestion, NoRoom}
use Rattle.dnsm_put.specs.Drafts.{IsDraftOf, header_of}
use Rattle.dnsm_put.specs.Responses.{AsksIn, asked_size}

-- The draft has the question of a query that has exactly one, which can be read. Its wanted rcode has the low twelve bits of `rcode`.
pub record Asks (b : List ℕ) (rcode : ℕ) (out : List ℕ) (d : Draft) (wanted : ℕ) : Type 0 where
  pub asked : QuestionItem
  pub asks : AsksIn b asked
  pub holds : (s : State) → IsDraftOf out d (with_question asked (up_to InBuilder s))
  pub same : wanted ≡ rcode % 4096

-- The draft has no items, as there is no such question. The wanted rcode is FORMERR, which is 1.
pub record AsksNothing (b out : List ℕ) (d : Draft) (wanted : ℕ) : Type 0 where
  pub unasked : (x : QuestionItem) → AsksIn b x → ⊥
  pub holds : (s : State) → IsDraftOf out d (up_to InBuilder s)
  pub formerr : wanted ≡ 1

-- The question of a response, and the rcode that is wanted.
abbrev pub Wants : List ℕ → ℕ → List ℕ → Draft → ℕ → Type 0
Wants b rcode out d wanted = Asks b rcode out d wanted ⊎ AsksNothing b out d wanted

-- The fields of the OPT record that answers that of a query, or 0 without one. The payload size is the query's, of which less than 512 octets means 512 (RFC 6891 section 6.2.3).
-- The version is 0, and DO is the query's (RFC 3225 section 3).
abbrev pub opt_answering : ℕ → Option OptItem → Opt
opt_answering rcode None = record { udp_size = 0; flags = 0; rcode_high = 0; version = 0 }
opt_answering rcode (Some asked) = record {
  udp_size = max 512 asked.fields.udp_payload_size;
  flags = if asked.fields.dnssec_ok then 32768 else 0;
  rcode_high = rcode / 16;
  version = 0;
}

-- the octets to keep free for it: those of an OPT record without options
abbrev pub reserved_for : Option OptItem → ℕ
reserved_for None = 0
reserved_for (Some asked) = 11

-- The draft has the header of a response to the query. The numbers are its rcode and what its OPT record says, for which octets are reserved.
pub record Heads (b : List ℕ) (wanted : ℕ) (d : Draft) (rcode : ℕ) (opt : Opt) : Type 0 where
  pub same_header : header_of d ≡ header_to wanted b
  pub same_rcode : rcode ≡ rcode_to wanted b
  pub same_opt : opt ≡ opt_answering (rcode_to wanted b) (opt_of b)
  pub reserves : d.reserved ≡ reserved_for (opt_of b)

-- The draft, the rcode `said` and the OPT record begin a response to the query, for the rcode `rcode`.
pub record Responds (b : List ℕ) (rcode : ℕ) (out : List ℕ) (d : Draft) (said : ℕ) (opt : Opt) : Type 0 where
  pub wanted : ℕ
  pub wants : Wants b rcode out d wanted
  pub heads : Heads b wanted d said opt

-- There is no response to the octets `b` in a buffer of n octets, and the error is the first reason: they are shorter than a header section, or QR is set, or the buffer is shorter
-- than a header section and the question, with its name uncompressed.
abbrev pub RefusesQuery : List ℕ → ℕ → ResponseError → Type 0
RefusesQuery b n ShortInput = length b < header_size
RefusesQuery b n IsResponse = (header_size ≤ length b) × ((fields_in (take 4 b)).qr ≡ true)
RefusesQuery b n NoQuestion = ⊥
RefusesQuery b n (BadQuestion error) = ⊥
RefusesQuery b n NoRoom = HoldsQuery b × ((n < header_size) ⊎ ((x : QuestionItem) × AsksIn b x × (n < asked_size x)))
