use Rattle.std.proofs.Common.{ap, length, subst, sym}
use Rattle.dns_item.proofs.theory.ItemLemmas.{records_grow}
use Rattle.dns_build.specs.BuilderStates.{IsMessage}
use Rattle.dns_build.specs.SectionStarts.{starts_at}
use Rattle.dns_build.proofs.Messages.{longer-composed}
use Rattle.dns_build.proofs.draft.Draft.size_of_record.Goals as goal

pub measure-requires : goal.measure-requires
measure-requires g c = longer-composed _ _ _ _ _ c.compose_record-composed.result _ (ap length c.as_slice-old.ensures.octets) c.compose_record-composed.ensures.composes

pub invariant_of-self : goal.invariant_of-self
invariant_of-self g c =
    let m = c.measure.ensures _ _ (records_grow _ _) c.self.invariant.0 (ap length c.as_slice-old.ensures.octets) c.compose_record-composed.ensures.composes in
    (subst IsMessage (sym m.0) c.self.invariant.0, c.self.invariant.1)

pub returns-clause-unchanged : goal.returns-clause-unchanged
returns-clause-unchanged g c =
    let m = c.measure.ensures _ _ (records_grow _ _) c.self.invariant.0 (ap length c.as_slice-old.ensures.octets) c.compose_record-composed.ensures.composes in
    rw (← c.self.view_is) (λ i. record { written = m.0 i; limit = c.self.inside.limit; starts = starts_at g.S.BuilderStage.stage c.self.inside.starts })

pub returns-clause-measures : goal.returns-clause-measures
returns-clause-measures g c =
    let m = c.measure.ensures _ _ (records_grow _ _) c.self.invariant.0 (ap length c.as_slice-old.ensures.octets) c.compose_record-composed.ensures.composes in
    rw (← c.self.view_is) m.1
