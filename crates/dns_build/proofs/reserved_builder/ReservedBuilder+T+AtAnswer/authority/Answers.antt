use Rattle.std.proofs.Common.{refl}
use Rattle.dns_build.specs.State.{InAnswer, InAuthority}
use Rattle.dns_build.proofs.ReservedLemmas.{answers-end, moved-reserved}
use Rattle.dns_build.proofs.reserved_builder.ReservedBuilder+T+AtAnswer.authority.Goals as goal

pub invariant_of-result : goal.invariant_of-result
invariant_of-result g c =
    moved-reserved _ InAnswer InAuthority g.T.Composer.rule c.self.inside.builder _ _ (answers-end g.T.Composer.rule) (λ s. refl) c.as_slice-so_far.ensures.state c.authority.ensures c.self.invariant
