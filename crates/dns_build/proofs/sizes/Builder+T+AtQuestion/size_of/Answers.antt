use Rattle.std.proofs.Common.{subst, sym}
use Rattle.dns_build.specs.BuilderStates.{RepresentsSome}
use Rattle.dns_build.specs.State.{InQuestion}
use Rattle.dns_build.proofs.Moves.{measures-item}
use Rattle.dns_build.proofs.Sections.{Questions}
use Rattle.dns_build.proofs.sizes.Builder+T+AtQuestion.size_of.Goals as goal

pub invariant_of-self : goal.invariant_of-self
invariant_of-self g c = subst (RepresentsSome InQuestion g.T.Composer.rule) (sym c.size_of_question.ensures.unchanged) c.self.invariant

pub returns : goal.returns
returns g c =
    let m = measures-item Questions _ _ g.T.Composer.rule _ _ _ c.size_of_question.ensures.measures in
    rw (← c.self.view_is) (record { unchanged = c.size_of_question.ensures.unchanged; size = m.size; outcome = m.outcome; memory = m.memory })
