use Rattle.std.proofs.Common.{ap, arith, length}
use Rattle.dns_build.proofs.StartLemmas.{after-set, enters}
use Rattle.dns_build.proofs.draft.Draft.entering.Goals as goal

pub invariant_of-result : goal.invariant_of-result
invariant_of-result g c =
    let long = c.self.invariant.0.long in
    let size = ap length c.as_slice.ensures.octets in
    (c.self.invariant.0, after-set _ _ _ _ (omega (arith, long, size)) c.self.invariant.1 c.set_later.ensures.later c.set_later.ensures.earlier)

pub returns : goal.returns
returns g c =
    rw (← c.self.view_is)
    (enters _ _ _ _ _ _ _ _ _ _ g.S.BuilderStage.depth g.B.BuilderStage.depth c.requires c.as_slice.ensures.octets c.set_later.ensures.later c.set_later.ensures.earlier)
