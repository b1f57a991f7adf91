use Rattle.std.proofs.Common.{◌∙◌, ap, subst, sym}
use Rattle.dns_code.specs.Header.{HeaderFields}
use Rattle.dns_build.specs.BuilderStates.{Represents}
use Rattle.dns_build.specs.State.{with_header}
use Rattle.dns_build.proofs.reserved_builder.ReservedBuilder.set_tc.Goals as goal

pub returns-clause-moves : goal.returns-clause-moves
returns-clause-moves g c = λ s h.
    let here = subst (Represents g.S.BuilderStage.stage g.T.Composer.rule s) (sym c.as_builder.ensures) h in
    subst (λ (f : HeaderFields). Represents g.S.BuilderStage.stage g.T.Composer.rule (with_header f s) c.set_header.new.self.built)
    (c.set_tc.ensures ∙ ap (λ (f : HeaderFields). record f { tc = c.args.tc }) (c.header-header.ensures s here)) (c.set_header.ensures.moves s h)
