-- How a builder reserves the octets of an OPT record: other pushes are refused these octets. RFC 6891 section 6.1.
use Rattle.std.specs.Prelude.{◌≡◌, ℕ, ◌+◌, ◌-◌, ◌==◌, if◌then◌else◌}
use Rattle.dns_wire.specs.Encoders.{Rule}
use Rattle.dns_edns_builder.specs.Gathered.{Gathered, gathered, opt_size}
use Rattle.dns_build.specs.State.{State, InAdditional, no_limit, with_record}
use Rattle.dns_build.specs.BuilderStates.{size_after}
use Rattle.dns_build.specs.Opt.{opt_record}
use Rattle.dns_build.specs.declared.reserved_opt.ReservedOpt.{ReservedOpt}

-- an OPT record, and the push limit before its octets were reserved
pub record Reservation : Type 0 where
  pub opt : Gathered
  pub limit : ℕ

-- what a `ReservedOpt` holds
abbrev pub reservation : ReservedOpt → Reservation
reservation reserved = record { opt = gathered reserved.opt; limit = reserved.limit }

-- the limit without `n` octets; no limit stays none
abbrev pub limit_without : ℕ → ℕ → ℕ
limit_without n limit = if limit == no_limit then no_limit else limit - n

-- the limit of the other pushes
abbrev pub limit_left : Reservation → ℕ
limit_left r = limit_without (opt_size r.opt) r.limit

-- Pushing an OPT record adds exactly the octets of `opt_size` to a message, under every rule.
abbrev pub OptsAddTheirSize : Type 0
OptsAddTheirSize = (rule : Rule) (g : Gathered) (s : State) → size_after rule (with_record InAdditional (opt_record g)) s ≡ size_after rule (λ s. s) s + opt_size g
