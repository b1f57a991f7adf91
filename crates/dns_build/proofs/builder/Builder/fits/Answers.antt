use Rattle.std.proofs.Common.{subst, sym}
use Rattle.dns_build.specs.BuilderStates.{RepresentsSome}
use Rattle.dns_build.proofs.builder.Builder.fits.Goals as goal

pub invariant_of-self : goal.invariant_of-self
invariant_of-self g c = subst (RepresentsSome g.S.BuilderStage.stage g.T.Composer.rule) (sym c.fits.ensures.unchanged) c.self.invariant

pub returns : goal.returns
returns g c = rw (← c.self.view_is) (record { unchanged = c.fits.ensures.unchanged; outcome = c.fits.ensures.outcome })
