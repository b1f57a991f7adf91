use Rattle.std.proofs.Common.{◌+◌, Err, Ok, length, subst}
use Rattle.dns_edns_builder.specs.Gathered.{gathered}
use Rattle.dns_build.specs.BuilderStates.{RepresentsSome, size_after}
use Rattle.dns_build.specs.Opt.{opt_record}
use Rattle.dns_build.specs.State.{InAdditional, with_record}
use Rattle.dns_build.proofs.ReservedLemmas.{grows-at, released-outcome}
use Rattle.dns_build.proofs.ReservedOptLemmas.{opt-fits}
use Rattle.dns_build.proofs.reserved_builder.ReservedBuilder+T+AtAdditional.push_opt.Goals as goal

pub returns-in-Ok-clause-outcome : goal.returns-in-Ok-clause-outcome
returns-in-Ok-clause-outcome g c = λ s h.
    released-outcome g.T.Composer.capacity g.T.Composer.grows g.T.Composer.rule (opt_record (gathered c.args.opt.now)) c.args.self.reserved c.args.self.built.limit s (Ok tt) h.limit
    (c.in-Ok.ensures.pushes _ (c.release-builder.ensures.released s h)).outcome

pub returns-in-Err-clause-outcome : goal.returns-in-Err-clause-outcome
returns-in-Err-clause-outcome g c = λ s h.
    released-outcome g.T.Composer.capacity g.T.Composer.grows g.T.Composer.rule (opt_record (gathered c.args.opt.now)) c.args.self.reserved c.args.self.built.limit s (Err c.in-Err.error) h.limit
    (c.in-Err.ensures.pushes _ (c.release-builder.ensures.released s h)).outcome

pub returns-in-Err-clause-fits : goal.returns-in-Err-clause-fits
returns-in-Err-clause-fits g c = λ small.
    let some = subst (RepresentsSome InAdditional g.T.Composer.rule) c.as_builder.ensures c.as_slice-so_far.ensures.state in
    opt-fits g.T.Composer.capacity g.T.Composer.grows g.T.Composer.rule (gathered c.args.opt.now) c.args.self.built c.args.self.reserved c.in-Err.error some small c.release-builder.ensures.fits
    (λ s h. released-outcome g.T.Composer.capacity g.T.Composer.grows g.T.Composer.rule (opt_record (gathered c.args.opt.now)) c.args.self.reserved c.args.self.built.limit s (Err c.in-Err.error)
    h.limit (c.in-Err.ensures.pushes _ (c.release-builder.ensures.released s h)).outcome)

pub returns-in-Err-clause-memory : goal.returns-in-Err-clause-memory
returns-in-Err-clause-memory g c =
    let some = subst (RepresentsSome InAdditional g.T.Composer.rule) c.as_builder.ensures c.as_slice-so_far.ensures.state in
    grows-at g.T.Composer.capacity g.T.Composer.grows InAdditional g.T.Composer.rule c.args.self.built (λ s. s.limit + c.args.self.reserved)
    (size_after g.T.Composer.rule (with_record InAdditional (opt_record (gathered c.args.opt.now)))) (λ s. length s.additionals) (Err c.in-Err.error) some
    (λ s h. released-outcome g.T.Composer.capacity g.T.Composer.grows g.T.Composer.rule (opt_record (gathered c.args.opt.now)) c.args.self.reserved c.args.self.built.limit s (Err c.in-Err.error)
    h.limit (c.in-Err.ensures.pushes _ (c.release-builder.ensures.released s h)).outcome)
