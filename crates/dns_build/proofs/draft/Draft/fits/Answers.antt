use Rattle.std.proofs.Common.{ap, length, replicate, subst, sym}
use Rattle.dns_wire.specs.Targets.{ComposeReturns}
use Rattle.dns_wire.proofs.theory.EncodedNames.{encode_octets_grows}
use Rattle.dns_build.specs.BuilderStates.{IsMessage}
use Rattle.dns_build.specs.SectionStarts.{starts_at}
use Rattle.dns_build.proofs.ReservedLemmas.{undone, zeros-size}
use Rattle.dns_build.proofs.draft.Draft.fits.Goals as goal

pub invariant_of-self : goal.invariant_of-self
invariant_of-self g c =
    let zeros = encode_octets_grows (replicate c.args.octets 0) in
    let same = undone _ _ _ _ _ _ _ _ zeros c.self.invariant.0 (ap length c.as_slice-old.ensures.octets) c.append_zeros-appended.ensures c.truncate.ensures.cut in
    (subst IsMessage (sym same) c.self.invariant.0, c.self.invariant.1)

pub returns-clause-unchanged : goal.returns-clause-unchanged
returns-clause-unchanged g c =
    let zeros = encode_octets_grows (replicate c.args.octets 0) in
    let same = undone _ _ _ _ _ _ _ _ zeros c.self.invariant.0 (ap length c.as_slice-old.ensures.octets) c.append_zeros-appended.ensures c.truncate.ensures.cut in
    rw (← c.self.view_is) (λ i. record { written = same i; limit = c.self.inside.limit; starts = starts_at g.S.BuilderStage.stage c.self.inside.starts })

pub returns-clause-outcome : goal.returns-clause-outcome
returns-clause-outcome g c =
    rw (← c.self.view_is)
    (subst (λ n. ComposeReturns g.T.Composer.capacity g.T.Composer.grows n c.append_zeros-appended.result) (zeros-size c.args.octets (g.T.Composer.written c.self.inside.target))
    c.append_zeros-appended.ensures.outcome)
