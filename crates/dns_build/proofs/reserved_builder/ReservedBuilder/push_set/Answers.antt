use Rattle.std.proofs.Common.{Err, List, map, refl, subst, sym}
use Rattle.dns_item.specs.Items.{RecordItem}
use Rattle.dns_build.specs.BuilderStates.{Built, Represents}
use Rattle.dns_build.specs.Reserved.{IsReserved, Reserving, SetLeaving}
use Rattle.dns_build.specs.State.{State, with_records}
use Rattle.dns_build.proofs.ReservedLemmas.{grows-refused, set-leaves, set-left-free, set-not-left, set-refused-before}
use Rattle.dns_build.proofs.SetLemmas.{set-undone}
use Rattle.dns_build.proofs.reserved_builder.ReservedBuilder.push_set.Goals as goal

pub invariant_of-self : goal.invariant_of-self
invariant_of-self g c =
    subst (λ (b : Built). IsReserved g.T.Composer.capacity (record { built = b; reserved = c.self.inside.reserved })) (sym c.in-Err.ensures.refused) c.self.invariant

pub returns-in-Err-clause-refused : goal.returns-in-Err-clause-refused
returns-in-Err-clause-refused g c = rw (← c.self.view_is) (λ i. record { built = c.in-Err.ensures.refused i; reserved = c.self.inside.reserved })

pub returns-in-Err-clause-outcome : goal.returns-in-Err-clause-outcome
returns-in-Err-clause-outcome g c = rw (← c.self.view_is) (λ s h. set-refused-before _ _ _ _ s _ _ c.in-Err.error (c.in-Err.ensures.outcome s h))

pub invariant_of-self-in-Err-fits : goal.invariant_of-self-in-Err-fits
invariant_of-self-in-Err-fits g c =
    let xs : List RecordItem = map g.R.ComposeRecord.item c.args.records.now in
    let back = set-undone _ _ g.met.S.RecordStage.at g.T.Composer.rule xs _ c.self.inside.builder _ _ _ c.as_slice-so_far.ensures.state c.mark-mark.ensures c.in_default.ensures.accepted
    c.fits.ensures.unchanged c.rewind_to.ensures in
    subst (λ (b : Built). IsReserved g.T.Composer.capacity (record { built = b; reserved = c.self.inside.reserved })) (sym back) c.self.invariant

pub returns-in-Err-fits-clause-refused : goal.returns-in-Err-fits-clause-refused
returns-in-Err-fits-clause-refused g c =
    let xs : List RecordItem = map g.R.ComposeRecord.item c.args.records.now in
    let back = set-undone _ _ g.met.S.RecordStage.at g.T.Composer.rule xs _ c.self.inside.builder _ _ _ c.as_slice-so_far.ensures.state c.mark-mark.ensures c.in_default.ensures.accepted
    c.fits.ensures.unchanged c.rewind_to.ensures in
    rw (← c.self.view_is) (λ i. record { built = back i; reserved = c.self.inside.reserved })

pub returns-in-Err-fits-clause-outcome : goal.returns-in-Err-fits-clause-outcome
returns-in-Err-fits-clause-outcome g c =
    let xs : List RecordItem = map g.R.ComposeRecord.item c.args.records.now in
    let stage = g.S.BuilderStage.stage in
    let rule = g.T.Composer.rule in
    let capacity = g.T.Composer.capacity in
    let grows = g.T.Composer.grows in
    subst (λ (r : Reserving). (s : State) → Represents stage rule s r.built → SetLeaving capacity grows rule stage s r.reserved xs (Err c.from.result)) c.self.view_is
    (λ s h. subst (λ e. SetLeaving capacity grows rule stage s c.self.inside.reserved xs (Err e)) (sym c.from.ensures)
    (set-not-left capacity grows rule stage xs c.self.inside.reserved c.self.inside.builder _ c.in-Err-fits.error c.in_default.ensures.outcome c.in_default.ensures.accepted
    c.in-Err-fits.ensures.outcome s h))

pub returns-in-Err-fits-clause-memory : goal.returns-in-Err-fits-clause-memory
returns-in-Err-fits-clause-memory g c = grows-refused _ _ _ c.in-Err-fits.error c.from.result _ c.in-Err-fits.ensures.outcome c.from.ensures refl

pub invariant_of-self-in_default-fits : goal.invariant_of-self-in_default-fits
invariant_of-self-in_default-fits g c =
    let xs : List RecordItem = map g.R.ComposeRecord.item c.args.records.now in
    subst (λ (b : Built). IsReserved g.T.Composer.capacity (record { built = b; reserved = c.self.inside.reserved })) (sym c.fits.ensures.unchanged)
    (set-leaves _ g.T.Composer.grows g.T.Composer.rule _ xs _ c.self.inside.builder _ c.as_slice-so_far.ensures.state c.in_default.ensures.outcome c.in_default.ensures.accepted
    c.in_default-fits.ensures.outcome c.self.invariant)

pub returns-clause-accepted : goal.returns-clause-accepted
returns-clause-accepted g c =
    let xs : List RecordItem = map g.R.ComposeRecord.item c.args.records.now in
    rw (← c.self.view_is)
    (λ s h. subst (λ (b : Built). Represents g.S.BuilderStage.stage g.T.Composer.rule (with_records g.S.BuilderStage.stage xs s) b) (sym c.fits.ensures.unchanged) (c.in_default.ensures.accepted s h))

pub returns-clause-outcome : goal.returns-clause-outcome
returns-clause-outcome g c =
    let xs : List RecordItem = map g.R.ComposeRecord.item c.args.records.now in
    rw (← c.self.view_is)
    (set-left-free _ g.T.Composer.grows _ _ xs _ c.self.inside.builder _ c.in_default.ensures.outcome c.in_default.ensures.accepted c.in_default-fits.ensures.outcome
    c.self.invariant)
