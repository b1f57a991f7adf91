use Rattle.std.proofs.Common.{◌∙◌, ap, length, map, subst, sym, take}
use Rattle.std.proofs.lemmas.List.{take_all}
use Rattle.dns_build.specs.BuilderStates.{Built, Represents, RepresentsSome}
use Rattle.dns_build.specs.Sets.{AllFit}
use Rattle.dns_build.specs.State.{with_records}
use Rattle.dns_build.proofs.SetLemmas.{ArePushed, cut-back, items-more, items-split, none-pushed, one-pushed, one-refused}
use Rattle.dns_build.proofs.Steps.{depth-at, offset-at}
use Rattle.dns_build.proofs.builder.Builder.push_set.Goals as goal

pub count_offset-requires : goal.count_offset-requires
count_offset-requires g c =
    let depth = depth-at _ _ g.met.S.RecordStage.at _ (c.DEPTH.ensures ∙ g.S.BuilderStage.depth) in
    record { first = depth.0; last = depth.1 }

pub loop-pushed-init : goal.loop-pushed-init
loop-pushed-init g c = record { pushed = λ s h. none-pushed _ _ _ _ s _ h }

pub loop-pushed-preserved : goal.loop-pushed-preserved
loop-pushed-preserved g c =
    let l = c.loop-pushed in
    let push = c.in_default.ensures in
    let item = g.R.ComposeRecord.item in
    let more = items-more item c.args.records.now l.pushed-index c.pushed-item.result c.loop-pushed-test.true c.pushed-item.is in
    record {
      pushed = λ s h. subst (λ xs. ArePushed g.T.Composer.capacity g.T.Composer.grows g.T.Composer.rule g.S.BuilderStage.stage s xs c.push.new.self) (sym more)
          (one-pushed _ _ _ _ s _ _ _ _ (l.invariant.pushed s h) push.outcome.each push.accepted);
    }

pub invariant_of-self : goal.invariant_of-self
invariant_of-self g c =
    let offset = offset-at _ _ g.met.S.RecordStage.at g.T.Composer.rule _ _ (c.DEPTH.ensures ∙ g.S.BuilderStage.depth) c.count_offset.ensures.value in
    let l = c.loop-pushed in
    let item = g.R.ComposeRecord.item in
    let same = c.self.view_is ∙ c.in-Err.ensures.refused in
    let back = cut-back _ _ g.met.S.RecordStage.at g.T.Composer.rule _ offset _ _ c.args.self.now c.self.inside.draft c.cut_section.new.self c.as_slice-end.ensures.state
    (λ s h. (
      map item (take l.pushed-index c.args.records.now),
      subst (λ (b : Built). Represents g.S.BuilderStage.stage g.T.Composer.rule (with_records g.S.BuilderStage.stage (map item (take l.pushed-index c.args.records.now)) s) b) (sym same)
          (l.invariant.pushed s h).represents,
    ))
    (ap length c.as_slice-end.ensures.octets) c.mark-mark.ensures c.cut_section.ensures in
    subst (RepresentsSome g.S.BuilderStage.stage g.T.Composer.rule) (sym back) c.as_slice-end.ensures.state

pub returns-in-Err-clause-refused : goal.returns-in-Err-clause-refused
returns-in-Err-clause-refused g c =
    let offset = offset-at _ _ g.met.S.RecordStage.at g.T.Composer.rule _ _ (c.DEPTH.ensures ∙ g.S.BuilderStage.depth) c.count_offset.ensures.value in
    let l = c.loop-pushed in
    let item = g.R.ComposeRecord.item in
    let same = c.self.view_is ∙ c.in-Err.ensures.refused in
    cut-back _ _ g.met.S.RecordStage.at g.T.Composer.rule _ offset _ _ c.args.self.now c.self.inside.draft c.cut_section.new.self c.as_slice-end.ensures.state
    (λ s h. (
      map item (take l.pushed-index c.args.records.now),
      subst (λ (b : Built). Represents g.S.BuilderStage.stage g.T.Composer.rule (with_records g.S.BuilderStage.stage (map item (take l.pushed-index c.args.records.now)) s) b) (sym same)
          (l.invariant.pushed s h).represents,
    ))
    (ap length c.as_slice-end.ensures.octets) c.mark-mark.ensures c.cut_section.ensures

pub returns-in-Err-clause-outcome : goal.returns-in-Err-clause-outcome
returns-in-Err-clause-outcome g c = λ s h.
    let l = c.loop-pushed in
    let item = g.R.ComposeRecord.item in
    let split = items-split item c.args.records.now l.pushed-index c.pushed-item.result c.loop-pushed-test.true c.pushed-item.is in
    one-refused _ _ _ _ s _ _ _ _ _ _ split (l.invariant.pushed s h) c.in-Err.ensures.outcome.each

pub returns-clause-accepted : goal.returns-clause-accepted
returns-clause-accepted g c = λ s h.
    let l = c.loop-pushed in
    let whole = ap (map g.R.ComposeRecord.item) (take_all l.pushed-index c.args.records.now c.loop-pushed-test.false) in
    subst (λ xs. Represents g.S.BuilderStage.stage g.T.Composer.rule (with_records g.S.BuilderStage.stage xs s) l.self) whole (l.invariant.pushed s h).represents

pub returns-clause-outcome : goal.returns-clause-outcome
returns-clause-outcome g c = λ s h.
    let l = c.loop-pushed in
    let whole = ap (map g.R.ComposeRecord.item) (take_all l.pushed-index c.args.records.now c.loop-pushed-test.false) in
    subst (λ xs. AllFit g.T.Composer.capacity g.T.Composer.grows g.T.Composer.rule g.S.BuilderStage.stage s xs) whole (l.invariant.pushed s h).fit
