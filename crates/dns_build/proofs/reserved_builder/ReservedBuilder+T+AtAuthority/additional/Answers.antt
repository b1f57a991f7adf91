use Rattle.std.proofs.Common.{refl}
use Rattle.dns_build.specs.State.{InAuthority, InAdditional}
use Rattle.dns_build.proofs.ReservedLemmas.{authorities-end, moved-reserved}
use Rattle.dns_build.proofs.reserved_builder.ReservedBuilder+T+AtAuthority.additional.Goals as goal

pub invariant_of-result : goal.invariant_of-result
invariant_of-result g c =
    moved-reserved _ InAuthority InAdditional g.T.Composer.rule c.self.inside.builder _ _ (authorities-end g.T.Composer.rule) (λ s. refl) c.as_slice-so_far.ensures.state
    c.additional.ensures c.self.invariant
