use Rattle.std.proofs.Common.{◌∙◌, ◌+◌, ◌-◌, ap, length, subst}
use Rattle.std.specs.Prelude.{Err, Ok}
use Rattle.dns_build.specs.BuilderStates.{Built, PushReturns, Represents}
use Rattle.dns_build.specs.State.{with_limit}
use Rattle.dns_build.proofs.builder.Builder.fit.Goals as goal

pub returns-in-Ok-clause-fitting : goal.returns-in-Ok-clause-fitting
returns-in-Ok-clause-fitting g c = λ s h.
    c.set_tc.ensures.moves _
    (subst (λ n. Represents g.S.BuilderStage.stage g.T.Composer.rule (with_limit (n - c.args.reserved) s) c.in-Ok.fitting.built) (ap (λ (b : Built). b.limit) c.limit_to.ensures.alone)
    (c.in-Ok.ensures.lowered _ (c.limit_to.ensures.moves s h)))

pub returns-in-Ok-clause-outcome : goal.returns-in-Ok-clause-outcome
returns-in-Ok-clause-outcome g c =
    subst (λ (b : Built). PushReturns g.T.Composer.capacity g.T.Composer.grows b.limit (length b.written.octets + c.args.reserved) 0 (Ok tt)) c.limit_to.ensures.alone c.in-Ok.ensures.outcome

pub returns-in-Err-clause-unchanged : goal.returns-in-Err-clause-unchanged
returns-in-Err-clause-unchanged g c =
    let same = c.in-Err.ensures.unchanged ∙ c.limit_to.ensures.alone in
    c.limit_to-in-Err.ensures.alone ∙ ap (λ (b : Built). record b { limit = c.most-before.result }) same ∙ ap (λ n. record c.args.self { limit = n }) c.most-before.ensures

pub returns-in-Err-clause-outcome : goal.returns-in-Err-clause-outcome
returns-in-Err-clause-outcome g c =
    subst (λ (b : Built). PushReturns g.T.Composer.capacity g.T.Composer.grows b.limit (length b.written.octets + c.args.reserved) 0 (Err c.in-Err.error))
    c.limit_to.ensures.alone c.in-Err.ensures.outcome
