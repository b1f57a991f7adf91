use Rattle.std.proofs.Common.{◌∙◌, Err, ap, refl, subst, sym}
use Rattle.dns_code.specs.Header.{HeaderFields}
use Rattle.dns_build.specs.BuilderStates.{MovesState, Represents}
use Rattle.dns_build.specs.Fitting.{left_out}
use Rattle.dns_build.specs.Reserved.{Reserving}
use Rattle.dns_build.proofs.FitLemmas.{fits-not, fits-nothing, fits-out, fits-whole}
use Rattle.dns_build.proofs.reserved_builder.ReservedBuilder.fit_set.Goals as goal

pub returns-then-tc-clause-fits : goal.returns-then-tc-clause-fits
returns-then-tc-clause-fits g c =
    fits-nothing _ _ _ _ _ _ _ _
    (λ s h. sym (ap (λ (f : HeaderFields). f.tc)
    (c.header.ensures s (subst (Represents g.S.BuilderStage.stage g.T.Composer.rule s) (sym c.as_builder.ensures) h))) ∙ sym c.tc.ensures ∙ c.if-tc.true) refl

pub returns-in_default-clause-fits : goal.returns-in_default-clause-fits
returns-in_default-clause-fits g c =
    fits-whole _ _ _ _ _ _ _ _
    (λ s h. sym (ap (λ (f : HeaderFields). f.tc) (c.header.ensures s (subst (Represents g.S.BuilderStage.stage g.T.Composer.rule s) (sym c.as_builder.ensures) h))) ∙ sym c.tc.ensures ∙ c.if-tc.false)
    c.in_default.ensures.outcome c.in_default.ensures.accepted

pub returns-in-OutOfMemory-clause-fits : goal.returns-in-OutOfMemory-clause-fits
returns-in-OutOfMemory-clause-fits g c =
    let stage = g.S.BuilderStage.stage in
    fits-out _ _ _ _ _ _ _ _ (c.in-Err.ensures.memory (ap Err c.in-OutOfMemory.is))
    (subst (λ (r : Reserving). MovesState stage stage g.T.Composer.rule (left_out c.args.required) r.built c.leave_out.new.self.built) c.in-Err.ensures.refused c.leave_out.ensures.moves) _

pub returns-in-OutOfMemory-clause-reserved : goal.returns-in-OutOfMemory-clause-reserved
returns-in-OutOfMemory-clause-reserved g c = c.leave_out.ensures.reserved ∙ ap (λ (r : Reserving). r.reserved) c.in-Err.ensures.refused

pub returns-in_default-error : goal.returns-in_default-error
returns-in_default-error g c =
    let stage = g.S.BuilderStage.stage in
    record {
      fits = fits-not _ _ _ _ _ _ _ _ c.in-Err.error c.in_default-error.not-OutOfMemory c.in-Err.ensures.outcome
          (subst (λ (r : Reserving). MovesState stage stage g.T.Composer.rule (left_out c.args.required) r.built c.leave_out.new.self.built) c.in-Err.ensures.refused c.leave_out.ensures.moves);
      reserved = c.leave_out.ensures.reserved ∙ ap (λ (r : Reserving). r.reserved) c.in-Err.ensures.refused;
    }
