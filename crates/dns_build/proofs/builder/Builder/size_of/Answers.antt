use Rattle.std.proofs.Common.{subst, sym}
use Rattle.dns_build.specs.BuilderStates.{RepresentsSome}
use Rattle.dns_build.proofs.Steps.{measures-at}
use Rattle.dns_build.proofs.builder.Builder.size_of.Goals as goal

pub invariant_of-self : goal.invariant_of-self
invariant_of-self g c = subst (RepresentsSome g.S.BuilderStage.stage g.T.Composer.rule) (sym c.size_of_record.ensures.unchanged) c.self.invariant

pub returns : goal.returns
returns g c =
    let m = measures-at _ _ g.met.S.RecordStage.at g.T.Composer.rule _ _ _ _ _ c.size_of_record.ensures.measures in
    rw (← c.self.view_is) (record { unchanged = c.size_of_record.ensures.unchanged; size = m.size; outcome = m.outcome; memory = m.memory })
