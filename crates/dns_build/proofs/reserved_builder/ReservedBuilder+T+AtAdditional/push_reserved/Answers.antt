use Rattle.std.proofs.Common.{◌+◌, Err, Ok, length, subst}
use Rattle.dns_build.specs.BuilderStates.{PushReturns}
use Rattle.dns_build.proofs.ReservedLemmas.{not-for-capacity, released-outcome, size-limited}
use Rattle.dns_build.proofs.reserved_builder.ReservedBuilder+T+AtAdditional.push_reserved.Goals as goal

pub returns-in-Err-clause-fits : goal.returns-in-Err-clause-fits
returns-in-Err-clause-fits g c = λ s h small.
    let released = c.release-builder.ensures in
    let both = released.fits _ small in
    let size = size-limited g.T.Composer.rule (g.R.ComposeRecord.item c.args.pushed) (c.args.self.built.limit + c.args.self.reserved) s in
    let refused = c.in-Err.ensures.outcome.each _ (released.released s h) in
    not-for-capacity g.T.Composer.capacity g.T.Composer.grows (c.args.self.built.limit + c.args.self.reserved) _ _ c.in-Err.error both.0 both.1
    (subst (λ n. PushReturns g.T.Composer.capacity g.T.Composer.grows (c.args.self.built.limit + c.args.self.reserved) n (length s.additionals) (Err c.in-Err.error)) size refused)

pub returns-in-Ok-clause-outcome : goal.returns-in-Ok-clause-outcome
returns-in-Ok-clause-outcome g c = λ s h.
    released-outcome g.T.Composer.capacity g.T.Composer.grows g.T.Composer.rule (g.R.ComposeRecord.item c.args.pushed) c.args.self.reserved c.args.self.built.limit s (Ok tt) h.limit
    (c.in-Ok.ensures.outcome.each _ (c.release-builder.ensures.released s h))

pub returns-in-Err-clause-outcome : goal.returns-in-Err-clause-outcome
returns-in-Err-clause-outcome g c = λ s h.
    released-outcome g.T.Composer.capacity g.T.Composer.grows g.T.Composer.rule (g.R.ComposeRecord.item c.args.pushed) c.args.self.reserved c.args.self.built.limit s (Err c.in-Err.error) h.limit
    (c.in-Err.ensures.outcome.each _ (c.release-builder.ensures.released s h))
