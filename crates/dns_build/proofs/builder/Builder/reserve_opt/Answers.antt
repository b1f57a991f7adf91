use Rattle.std.proofs.Common.{◌≡◌, ◌∙◌, ℕ, ap, subst, sym}
use Rattle.dns_edns_builder.specs.Gathered.{gathered, opt_size}
use Rattle.dns_build.specs.BuilderStates.{RepresentsSome}
use Rattle.dns_build.specs.ReservedOpt.{limit_without}
use Rattle.dns_build.proofs.Moves.{moves-limit}
use Rattle.dns_build.proofs.SomeState.{some_moved}
use Rattle.dns_build.proofs.builder.Builder.reserve_opt.Goals as goal

pub invariant_of-self : goal.invariant_of-self
invariant_of-self g c = subst (RepresentsSome g.S.BuilderStage.stage g.T.Composer.rule) (sym c.in_err-limit.ensures.refused) c.self.invariant

pub invariant_of-self-2 : goal.invariant_of-self-2
invariant_of-self-2 g c = some_moved _ _ _ _ _ _ (moves-limit _ _ _ _ _ c.in_ok-limit.ensures.lowered) c.self.invariant

pub returns-clause-lowered : goal.returns-clause-lowered
returns-clause-lowered g c =
    let same : limit_without c.compose_len.result c.self.inside.draft.limit ≡ limit_without (opt_size (gathered c.args.opt)) c.in_ok-limit.limit =
    λ i. limit_without (c.compose_len.ensures i) (sym c.in_ok-limit.ensures.before i) in
    rw (← c.self.view_is) (moves-limit _ _ _ _ _ (c.in_ok-limit.ensures.lowered ∙ ap (λ (n : ℕ). record c.self.inside.draft { limit = n }) same))
