-- How many octets an OPT record takes, and that it fits where they are reserved.
use Rattle.std.proofs.Common.{◌≡◌, ◌≢◌, ◌∙◌, ℕ, ◌+◌, ◌-◌, ◌<◌, ◌≤◌, Bool, true, false, length, length-append, ap, sym, refl, subst, arith, cond}
use Rattle.std.proofs.Math.Logic.{∥∥₁_elim}
use Rattle.std.proofs.lemmas.Bool.{eqb-true}
use Rattle.std.specs.Prelude.{Option, Result, Err, ◌==◌}
use Rattle.dns_wire.specs.Encoders.{CompressionTable, Rule, Plain, Static, Tree, Hash, encode_name}
use Rattle.dns_wire.specs.Targets.{Fits, Written}
use Rattle.dns_wire.specs.Parts.{encode_parts}
use Rattle.dns_item.specs.Items.{encode_record}
use Rattle.dns_edns_builder.specs.Gathered.{Gathered, opt_size}
use Rattle.dns_read.specs.declared.section.Section.TheVariants.{Additional}
use Rattle.dns_build.specs.State.{State, InAdditional, encode, no_limit, with_limit, with_record}
use Rattle.dns_build.specs.BuilderStates.{Built, InEach, PushReturns, Represents, RepresentsSome, size_after}
use Rattle.dns_build.specs.Opt.{opt_record, PushesOptRecord}
use Rattle.dns_build.specs.ReservedOpt.{Reservation, limit_left, OptsAddTheirSize}
use Rattle.dns_build.specs.declared.push_error.PushError.{PushError}
use Rattle.dns_build.specs.declared.push_error.PushError.TheVariants.{LimitExceeded, ShortBuf}
use Rattle.dns_build.proofs.ReservedLemmas.{not-for-capacity}
use Rattle.dns_build.proofs.theory.Encodings.{encode-message}
use Rattle.dns_build.proofs.Sections.{Records, encode-size}

-- an OPT record is encoded in these octets, whatever was written before
opt_octets : (rule : Rule) (g : Gathered) (m : CompressionTable) (w : ℕ) → length (encode_record rule (opt_record g) m w).octets ≡ opt_size g
unfolding encode_record encode_name encode_parts
opt_octets Plain g m w = simp length-append (omega arith)
opt_octets Static g m w = simp length-append (omega arith)
opt_octets Tree g m w = simp length-append (omega arith)
opt_octets Hash g m w = simp length-append (omega arith)

-- pushing it adds these octets
pub opts_add_their_size : OptsAddTheirSize
opts_add_their_size rule g s =
    let t : Written = encode rule s in
    sym (encode-size (Records Additional) rule s refl (opt_record g)) ∙ length-append t.octets _ ∙ ap (λ n. length t.octets + n) (opt_octets rule g t.table (length t.octets))

-- n octets after a message within the lowered limit don't exceed the limit
within_limit : (n len limit : ℕ) (test : Bool) → (limit == no_limit) ≡ test → 0 < len → len + n ≤ no_limit → len ≤ cond test no_limit (limit - n) → len + n ≤ limit
within_limit n len limit true is some short within = let e = eqb-true limit no_limit is in omega (arith, e)
within_limit n len limit false is some short within = omega arith

-- so an OPT record for which octets are reserved isn't refused for the limit
pub not_exceeded : (capacity : Option ℕ) (grows : Bool) (rule : Rule) (r : Reservation) (old new : Built) (result : Result (Unit {0}) PushError)
    → InEach InAdditional rule old (λ s. PushesOptRecord capacity grows rule r.opt (with_limit r.limit s) new result) → RepresentsSome InAdditional rule old
    → 12 ≤ length old.written.octets → length old.written.octets < 9223372036854775808 → length old.written.octets ≤ limit_left r → result ≢ Err LimitExceeded
not_exceeded capacity grows rule r old new result each some long short within is =
    ∥∥₁_elim some (λ x y. absurd x) (λ p.
    let s : State = with_limit r.limit p.0 in
    let pushes = each p.0 p.1 in
    let exceeds = subst (PushReturns capacity grows r.limit (size_after rule (with_record InAdditional (opt_record r.opt)) s) (length s.additionals)) is pushes.outcome in
    let few = pushes.is_gathered.short in
    let same : length (encode rule s).octets ≡ length old.written.octets =
    ap (λ (w : Written). length w.octets) (encode-message rule s ∙ sym (encode-message rule p.0) ∙ sym p.1.written) in
    let n = opts_add_their_size rule r.opt s in
    let fits = within_limit (opt_size r.opt) (length old.written.octets) r.limit (r.limit == no_limit) refl (omega arith) (omega (arith, few, short)) within in
    omega (arith, exceeds.1, same, n, fits))

-- An OPT record within the reserved octets isn't refused for capacity or limit.
pub opt-fits : (capacity : Option ℕ) (grows : Bool) (rule : Rule) (g : Gathered) (old : Built) (r : ℕ) (e : PushError) → RepresentsSome InAdditional rule old → opt_size g ≤ r
    → ((n : ℕ) → n ≤ length old.written.octets + r → Fits capacity n × (n ≤ old.limit + r))
    → InEach InAdditional rule old (λ s. PushReturns capacity grows (s.limit + r) (size_after rule (with_record InAdditional (opt_record g)) s) (length s.additionals) (Err e))
    → (e ≢ ShortBuf) × (e ≢ LimitExceeded)
opt-fits capacity grows rule g old r e some small fits returns =
    (λ is. ∥∥₁_elim some (λ x y. absurd x) (λ p. (neither p.0 p.1).0 is), λ is. ∥∥₁_elim some (λ x y. absurd x) (λ p. (neither p.0 p.1).1 is))
  where
    neither : (s : State) → Represents InAdditional rule s old → (e ≢ ShortBuf) × (e ≢ LimitExceeded)
    neither s h =
        let n : ℕ = size_after rule (with_record InAdditional (opt_record g)) s in
        let size : n ≡ length old.written.octets + opt_size g = opts_add_their_size rule g s ∙ ap (λ (w : Written). length w.octets + opt_size g) (sym h.written) in
        let both = fits n (omega (arith, size, small)) in
        let limit = h.limit in
        let short = both.1 in
        not-for-capacity capacity grows (s.limit + r) n (length s.additionals) e both.0 (omega (arith, short, limit)) (returns s h)
