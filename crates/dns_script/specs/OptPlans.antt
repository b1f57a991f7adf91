-- What an OPT builder has gathered after a plan was carried out. RFC 6891 sections 6.1.2 and 6.1.3.
use Rattle.std.specs.Prelude.{◌≡◌, ◌⊎◌, ℕ, ◌+◌, ◌<◌, ◌≤◌, List, [], ◌∷◌, ◌++◌, length, map, Option, Some, None, Result, Ok, Err, OnOk}
use Rattle.dns_octets.specs.declared.error.AppendError.{AppendError}
use Rattle.dns_octets.specs.declared.error.AppendError.TheVariants.{ShortBuf, OutOfMemory}
use Rattle.dns_code.specs.Header.{HeaderFields}
use Rattle.dns_edns.specs.OptData.{option_of}
use Rattle.dns_edns.specs.Options.{OptionItem, encode_options}
use Rattle.dns_edns_builder.specs.Gathered.{Gathered, gathered, nothing_gathered, with_extended_rcode}
use Rattle.dns_edns_builder.specs.declared.builder.OptBuilder.{OptBuilder}
use Rattle.dns_script.specs.declared.opt_plan.OptPlan.{OptPlan}

-- with this extended RCODE, if there is one
abbrev pub with_any_rcode : Option ℕ → Gathered → Gathered
with_any_rcode None g = g
with_any_rcode (Some rcode) g = with_extended_rcode rcode g

-- with the fields of a plan
abbrev pub with_fields : OptPlan → Gathered → Gathered
with_fields plan g = let h = with_any_rcode plan.rcode g in record h {
  fields = record h.fields { udp_payload_size = plan.udp_payload_size; version = plan.version; dnssec_ok = plan.dnssec_ok };
}

-- with more options after those gathered
abbrev pub with_options : List OptionItem → Gathered → Gathered
with_options xs g = record g { options = g.options ++ xs }

-- the options of a plan
abbrev pub planned_options : OptPlan → List OptionItem
planned_options plan = map option_of plan.options.items

-- with the fields and options of a plan
abbrev pub planned : OptPlan → Gathered → Gathered
planned plan g = with_options (planned_options plan) (with_fields plan g)

-- what a plan gathers on a new builder, for this header
abbrev pub planned_beside : HeaderFields → OptPlan → Gathered
planned_beside header plan = planned plan (nothing_gathered header)

-- The result of adding options in order, when those already gathered take n octets. An option fails with `ShortBuf` if all would then take more than 65,535
-- octets; any other fails only with `OutOfMemory`. The first failure is the result.
abbrev pub AddsOptions : ℕ → List OptionItem → Result (Unit {0}) AppendError → Type 0
AddsOptions n [] outcome = outcome ≡ Ok tt
AddsOptions n (x ∷ xs) outcome = let m = n + 4 + length x.octets in
    ((65535 < m) × (outcome ≡ Err ShortBuf)) ⊎ ((m ≤ 65535) × ((outcome ≡ Err OutOfMemory) ⊎ AddsOptions m xs outcome))

-- the octets that the gathered options take
abbrev pub gathered_size : Gathered → ℕ
gathered_size g = length (encode_options g.options)

-- a plan is carried out on a builder: on success everything in it is gathered, and the result is that of adding its options
pub record CarriesOut (plan : OptPlan) (old new : OptBuilder) (outcome : Result (Unit {0}) AppendError) : Type 0 where
  pub done : OnOk outcome (gathered new ≡ planned plan (gathered old))
  pub adds : AddsOptions (gathered_size (gathered old)) (planned_options plan) outcome
