-- How a response to a query is started: its header, its questions, and an OPT record if the query has one. RFC 1035 section 4.1.1; RFC 4035 section 3.2.2; RFC 6891 section 6.1.
use Rattle.std.specs.Prelude.{ℕ, ◌%◌, ◌==◌, Bool, List, Option, None, Some, Result, Ok, Err, false, if◌then◌else◌, length, nat_lt, option_map, true}
use Rattle.dns_code.specs.Header.{HeaderFields, fields_in}
use Rattle.dns_edns_builder.specs.Gathered.{Gathered, nothing_gathered, with_extended_rcode}
use Rattle.dns_item.specs.OptRecord.{OptItem}
use Rattle.dns_read.specs.OptSearches.{opt_of}
use Rattle.dns_reply.specs.Opts.{opts_of}
use Rattle.dns_build.specs.BuilderStates.{Built}
use Rattle.dns_build.specs.State.{State, InQuestion, move_to, with_header}
use Rattle.dns_build.specs.declared.push_error.PushError.{PushError}

-- The extended rcode of a response to a query with this OPT record, or none. It is FORMERR, which is 1, if the query has more than one OPT record (RFC 6891 section 6.1.1).
-- Else it is BADVERS, which is 16, if the version of EDNS is above 0 (section 6.1.3).
abbrev pub response_rcode : (rcode : ℕ) (has_many : Bool) → Option OptItem → ℕ
response_rcode rcode true opt = 1
response_rcode rcode false None = rcode
response_rcode rcode false (Some opt) = if opt.fields.version == 0 then rcode else 16

-- the extended rcode of a response to the query with the octets `b`
abbrev pub rcode_to : ℕ → List ℕ → ℕ
rcode_to rcode b = response_rcode rcode (nat_lt 1 (length (opts_of b))) (opt_of b)

-- The header of a response: ID, opcode, RD and CD of the query, QR set, and the lower four bits of the rcode. All other bits are clear. RFC 1035 section 4.1.1; CD: RFC 4035 section 3.2.2.
abbrev pub response_header : ℕ → HeaderFields → HeaderFields
response_header rcode asked = record {
  id = asked.id;
  qr = true;
  opcode = asked.opcode;
  aa = false;
  tc = false;
  rd = asked.rd;
  ra = false;
  z = false;
  ad = false;
  cd = asked.cd;
  rcode = rcode % 16;
}

-- The OPT record of a response to a query with the OPT record `opt`: the rcode, version 0, and DO of the query. RFC 6891 section 6.1; DO: RFC 3225 section 3.
abbrev pub opt_for : ℕ → HeaderFields → OptItem → Gathered
opt_for rcode header opt =
    let none = nothing_gathered header in
    with_extended_rcode rcode (record none { fields = record none.fields { dnssec_ok = opt.fields.dnssec_ok } })

-- the header of a response to the query with the octets `b`
abbrev pub header_to : ℕ → List ℕ → HeaderFields
header_to rcode b = response_header (rcode_to rcode b) (fields_in b)

-- the OPT record of a response to this query, if the query has one
abbrev pub opt_to : ℕ → List ℕ → Option Gathered
opt_to rcode b = option_map (opt_for (rcode_to rcode b) (header_to rcode b)) (opt_of b)

-- the state onto which the questions of a response to this query are pushed
abbrev pub responding : ℕ → List ℕ → State → State
responding rcode b s = move_to InQuestion (with_header (header_to rcode b) s)

-- the builder of a response, without the OPT record
abbrev pub builder_of : {X : Type 0} → Result (Built × X) PushError → Result Built PushError
builder_of (Ok response) = Ok response.0
builder_of (Err e) = Err e
