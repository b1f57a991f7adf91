use Rattle.dns_build.specs.BuilderStates.{fresh}
use Rattle.dns_build.proofs.builder.Builder+T+AtBuilder.from_target.Goals as goal

pub invariant_of-result : goal.invariant_of-result
invariant_of-result g c = ∣ (fresh, c.over.ensures) ∣₁
