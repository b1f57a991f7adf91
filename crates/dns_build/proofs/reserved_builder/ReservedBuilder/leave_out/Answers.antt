use Rattle.std.proofs.Common.{subst, sym}
use Rattle.dns_build.specs.BuilderStates.{MovesState}
use Rattle.dns_build.specs.Fitting.{left_out}
use Rattle.dns_build.proofs.reserved_builder.ReservedBuilder.leave_out.Goals as goal

pub returns-then-required-clause-moves : goal.returns-then-required-clause-moves
returns-then-required-clause-moves g c =
    let stage = g.S.BuilderStage.stage in
    subst (λ required. MovesState stage stage g.T.Composer.rule (left_out required) c.args.self.now.built c.set_tc.new.self.built) (sym c.if-required.true) c.set_tc.ensures.moves

pub returns-else-required-clause-moves : goal.returns-else-required-clause-moves
returns-else-required-clause-moves g c =
    let stage = g.S.BuilderStage.stage in
    subst (λ required. MovesState stage stage g.T.Composer.rule (left_out required) c.args.self.now.built c.args.self.now.built) (sym c.if-required.false) (λ s h. h)
