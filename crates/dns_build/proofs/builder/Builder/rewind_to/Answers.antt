use Rattle.std.proofs.Common.{◌∙◌}
use Rattle.dns_build.proofs.SetLemmas.{keeps-first}
use Rattle.dns_build.proofs.SomeState.{some_moved}
use Rattle.dns_build.proofs.Steps.{depth-at, offset-at}
use Rattle.dns_build.proofs.builder.Builder.rewind_to.Goals as goal

pub count_offset-requires : goal.count_offset-requires
count_offset-requires g c =
    let depth = depth-at _ _ g.met.S.RecordStage.at _ (c.DEPTH.ensures ∙ g.S.BuilderStage.depth) in
    record { first = depth.0; last = depth.1 }

pub invariant_of-self : goal.invariant_of-self
invariant_of-self g c =
    let offset = offset-at _ _ g.met.S.RecordStage.at g.T.Composer.rule _ _ (c.DEPTH.ensures ∙ g.S.BuilderStage.depth) c.count_offset.ensures.value in
    some_moved _ _ _ _ _ _ (keeps-first _ _ g.met.S.RecordStage.at g.T.Composer.rule _ offset _ _ _ c.keep_first.ensures) c.self.invariant

pub returns : goal.returns
returns g c =
    let offset = offset-at _ _ g.met.S.RecordStage.at g.T.Composer.rule _ _ (c.DEPTH.ensures ∙ g.S.BuilderStage.depth) c.count_offset.ensures.value in
    rw (← c.self.view_is) (keeps-first _ _ g.met.S.RecordStage.at g.T.Composer.rule _ offset _ _ _ c.keep_first.ensures)
