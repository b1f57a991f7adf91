use Rattle.std.proofs.Common.{Err, length, refl, subst, sym}
use Rattle.dns_build.specs.BuilderStates.{Built, Represents, size_after}
use Rattle.dns_build.specs.Reserved.{IsReserved, PushLeaving, Reserving}
use Rattle.dns_build.specs.State.{State, records_at, with_record}
use Rattle.dns_build.proofs.ReservedLemmas.{grows-refused, leaves, left-free, not-left, refused-before}
use Rattle.dns_build.proofs.SetLemmas.{push-undone}
use Rattle.dns_build.proofs.reserved_builder.ReservedBuilder.push.Goals as goal

pub invariant_of-self : goal.invariant_of-self
invariant_of-self g c =
    subst (λ (b : Built). IsReserved g.T.Composer.capacity (record { built = b; reserved = c.self.inside.reserved })) (sym c.in-Err.ensures.refused) c.self.invariant

pub returns-in-Err-clause-refused : goal.returns-in-Err-clause-refused
returns-in-Err-clause-refused g c = rw (← c.self.view_is) (λ i. record { built = c.in-Err.ensures.refused i; reserved = c.self.inside.reserved })

pub returns-in-Err-clause-outcome : goal.returns-in-Err-clause-outcome
returns-in-Err-clause-outcome g c = rw (← c.self.view_is) (λ s h. refused-before _ _ _ _ _ _ c.in-Err.error (c.in-Err.ensures.outcome.each s h))

pub invariant_of-self-in-Err-fits : goal.invariant_of-self-in-Err-fits
invariant_of-self-in-Err-fits g c =
    let back = push-undone _ _ g.met.S.RecordStage.at g.T.Composer.rule _ _ c.self.inside.builder _ _ _ c.as_slice-so_far.ensures.state c.mark-mark.ensures c.in_default.ensures.accepted
    c.fits.ensures.unchanged c.rewind_to.ensures in
    subst (λ (b : Built). IsReserved g.T.Composer.capacity (record { built = b; reserved = c.self.inside.reserved })) (sym back) c.self.invariant

pub returns-in-Err-fits-clause-refused : goal.returns-in-Err-fits-clause-refused
returns-in-Err-fits-clause-refused g c =
    let back = push-undone _ _ g.met.S.RecordStage.at g.T.Composer.rule _ _ c.self.inside.builder _ _ _ c.as_slice-so_far.ensures.state c.mark-mark.ensures c.in_default.ensures.accepted
    c.fits.ensures.unchanged c.rewind_to.ensures in
    rw (← c.self.view_is) (λ i. record { built = back i; reserved = c.self.inside.reserved })

pub returns-in-Err-fits-clause-outcome : goal.returns-in-Err-fits-clause-outcome
returns-in-Err-fits-clause-outcome g c =
    let x = g.R.ComposeRecord.item c.args.pushed in
    let stage = g.S.BuilderStage.stage in
    let rule = g.T.Composer.rule in
    let capacity = g.T.Composer.capacity in
    subst (λ (r : Reserving). (s : State) → Represents stage rule s r.built
    → PushLeaving capacity g.T.Composer.grows s.limit r.reserved (size_after rule (with_record stage x) s) (length (records_at stage s)) (Err c.from.result)) c.self.view_is
    (λ s h. subst (λ e. PushLeaving capacity g.T.Composer.grows s.limit c.self.inside.reserved (size_after rule (with_record stage x) s) (length (records_at stage s)) (Err e)) (sym c.from.ensures)
    (not-left _ _ _ _ _ _ _ _ c.in-Err-fits.error c.in_default.ensures.outcome.each c.in_default.ensures.accepted c.in-Err-fits.ensures.outcome s h))

pub returns-in-Err-fits-clause-memory : goal.returns-in-Err-fits-clause-memory
returns-in-Err-fits-clause-memory g c = grows-refused _ _ _ c.in-Err-fits.error c.from.result _ c.in-Err-fits.ensures.outcome c.from.ensures refl

pub invariant_of-self-in_default-fits : goal.invariant_of-self-in_default-fits
invariant_of-self-in_default-fits g c =
    subst (λ (b : Built). IsReserved g.T.Composer.capacity (record { built = b; reserved = c.self.inside.reserved })) (sym c.fits.ensures.unchanged)
    (leaves _ g.T.Composer.rule _ _ _ c.self.inside.builder _ c.as_slice-so_far.ensures.state (λ s h. (c.in_default.ensures.outcome.each s h).1) c.in_default.ensures.accepted
    c.in_default-fits.ensures.outcome c.self.invariant)

pub returns-clause-accepted : goal.returns-clause-accepted
returns-clause-accepted g c =
    rw (← c.self.view_is)
    (λ s h. subst (λ (b : Built). Represents g.S.BuilderStage.stage g.T.Composer.rule (with_record g.S.BuilderStage.stage (g.R.ComposeRecord.item c.args.pushed) s) b) (sym c.fits.ensures.unchanged)
    (c.in_default.ensures.accepted s h))

pub returns-clause-outcome : goal.returns-clause-outcome
returns-clause-outcome g c =
    rw (← c.self.view_is) (left-free _ g.T.Composer.grows _ _ _ _ _ _ c.in_default.ensures.outcome.each c.in_default.ensures.accepted c.in_default-fits.ensures.outcome)
