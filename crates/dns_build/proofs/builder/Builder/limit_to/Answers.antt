use Rattle.dns_build.proofs.Moves.{moves-limit}
use Rattle.dns_build.proofs.SomeState.{some_moved}
use Rattle.dns_build.proofs.builder.Builder.limit_to.Goals as goal

pub invariant_of-self : goal.invariant_of-self
invariant_of-self g c = some_moved _ _ _ _ _ _ (moves-limit _ _ _ _ _ c.write_limit.ensures) c.self.invariant

pub returns : goal.returns
returns g c = rw (← c.self.view_is) (record { moves = moves-limit _ _ _ _ _ c.write_limit.ensures; alone = c.write_limit.ensures })
