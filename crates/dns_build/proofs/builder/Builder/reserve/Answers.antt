use Rattle.std.proofs.Common.{◌∙◌, ◌-◌, ap, arith, length}
use Rattle.dns_build.proofs.ReservedLemmas.{fits-refused, reserves}
use Rattle.dns_build.proofs.builder.Builder.reserve.Goals as goal

pub returns-in-Err-clause-outcome : goal.returns-in-Err-clause-outcome
returns-in-Err-clause-outcome g c = rw c.from.ensures (fits-refused _ _ _ _ c.in-Err.error c.in-Err.ensures.outcome)

pub invariant_of-result : goal.invariant_of-result
invariant_of-result g c =
    let size = ap length c.as_slice-length.ensures.octets in
    reserves _ _ c.fits.new.self _ c.args.octets c.most-limit.result c.fits.ensures.unchanged
    (c.limit_to.ensures.alone ∙ ap (λ n. record c.fits.new.self { limit = c.most-limit.result - n }) c.from-more.ensures) c.in_default.ensures.outcome
    (omega (arith, size, c.from-more.ensures)) (omega arith)
