use Rattle.std.proofs.Common.{sym, subst}
use Rattle.dns_build.specs.BuilderStates.{RepresentsSome}
use Rattle.dns_build.proofs.builder.Builder.clone.Goals as goal

pub invariant_of-result : goal.invariant_of-result
invariant_of-result g c = subst (RepresentsSome g.S.BuilderStage.stage g.T.Composer.rule) (sym c.in_ok-clone.ensures.equal) c.self.invariant
