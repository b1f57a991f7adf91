-- How a builder pushes an OPT record whose fields and options a closure sets. RFC 6891 sections 6.1.1 to 6.1.3.
use Rattle.std.specs.Prelude.{◌≡◌, ℕ, Bool, [], ◌∷◌, length, Option, OnOk, Result, Ok, Err}
use Rattle.dns_octets.specs.declared.error.AppendError.{AppendError}
use Rattle.dns_wire.specs.Parts.Part.{Octets}
use Rattle.dns_wire.specs.Encoders.{Rule}
use Rattle.dns_code.specs.Header.{HeaderFields}
use Rattle.dns_edns.specs.OptHeader.{ttl_in}
use Rattle.dns_edns.specs.Options.{encode_options}
use Rattle.dns_edns_builder.specs.Gathered.{Gathered, IsGathered, gathered, nothing_gathered}
use Rattle.dns_edns_builder.specs.declared.builder.OptBuilder.{OptBuilder}
use Rattle.dns_item.specs.Items.{RecordItem}
use Rattle.dns_build.specs.State.{State, InAdditional, with_record, with_header}
use Rattle.dns_build.specs.BuilderStates.{Built, Represents, PushReturns, push_error, size_after}
use Rattle.dns_build.specs.declared.push_error.PushError.{PushError}

-- The OPT record with the gathered fields and options: owned by the root, type 41, the UDP payload size as class, the other fields as TTL, and the options in order as RDATA.
abbrev pub opt_record : Gathered → RecordItem
opt_record g = record {
  owner = [];
  rtype = 41;
  class = g.fields.udp_payload_size;
  ttl = ttl_in g.fields;
  parts = Octets (encode_options g.options) ∷ [];
}

-- sets the rcode, and changes nothing else
abbrev pub with_rcode : ℕ → HeaderFields → HeaderFields
with_rcode rcode header = record header { rcode = rcode }

-- appends the OPT record to the additional section, and sets the gathered rcode in the header
abbrev pub with_opt : Gathered → State → State
with_opt g s = with_header (with_rcode g.header.rcode s.header) (with_record InAdditional (opt_record g) s)

-- The OPT record of `g` is pushed. On success the builder represents the state with the record and the rcode.
pub record PushesOptRecord (capacity : Option ℕ) (grows : Bool) (rule : Rule) (g : Gathered) (s : State) (new : Built) (result : Result (Unit {0}) PushError) : Type 0 where
  pub outcome : PushReturns capacity grows s.limit (size_after rule (with_record InAdditional (opt_record g)) s) (length s.additionals) result
  pub is_gathered : IsGathered g
  pub accepted : OnOk result (Represents InAdditional rule (with_opt g s) new)

-- The closure was called on a new `OptBuilder` that has a copy of `header`. It returned `outcome`, and the builder had then gathered `g`.
pub record Gathers (call : OptBuilder → Result (Unit {0}) AppendError → OptBuilder → Type 0) (header : HeaderFields) (outcome : Result (Unit {0}) AppendError) (g : Gathered) : Type 0 where
  pub before : OptBuilder
  pub after : OptBuilder
  pub fresh : gathered before ≡ nothing_gathered header
  pub called : call before outcome after
  pub left : gathered after ≡ g

-- the result of `opt`: the error of the closure, or else the result of the push
abbrev pub OptReturns : Option ℕ → Bool → ℕ → ℕ → ℕ → Result (Unit {0}) AppendError → Result (Unit {0}) PushError → Type 0
OptReturns capacity grows limit n count (Err e) result = result ≡ Err (push_error e)
OptReturns capacity grows limit n count (Ok _) result = PushReturns capacity grows limit n count result

-- The fields and options that a closure sets are pushed as an OPT record. On success the builder represents the state with the record and the rcode.
pub record PushesOpt (capacity : Option ℕ) (grows : Bool) (rule : Rule) (call : OptBuilder → Result (Unit {0}) AppendError → OptBuilder → Type 0) (s : State)
    (new : Built) (result : Result (Unit {0}) PushError) : Type 0 where
  pub g : Gathered
  pub outcome : Result (Unit {0}) AppendError
  pub gathers : Gathers call s.header outcome g
  pub answers : OptReturns capacity grows s.limit (size_after rule (with_record InAdditional (opt_record g)) s) (length s.additionals) outcome result
  pub is_gathered : OnOk result (IsGathered g)
  pub accepted : OnOk result (Represents InAdditional rule (with_opt g s) new)
